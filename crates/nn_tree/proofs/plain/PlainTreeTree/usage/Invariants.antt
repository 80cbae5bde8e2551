use Rattle.std.proofs.Common.{◌≡◌, ◌≤◌, ◌*◌, ◌^◌, map}
use Rattle.std.specs.Prelude.{sum_by}
use Rattle.std.specs.List.{range_with_len}
use Rattle.nn_tree.specs.Namespace.{name_share, space_share}
use Rattle.nn_tree.specs.Slots.{slot_share}
use Rattle.nn_tree.specs.Links.{slot, place_of}
use Rattle.nn_tree.specs.Plain.{links_of}
use Rattle.nn_tree.proofs.plain.PlainTreeTree.usage.Given as goal

abbrev pub invariant-loop-i : goal.invariant-loop-i
invariant-loop-i l = record {
  names : l.names ≡ sum_by (slot_share (name_share (place_of (links_of l.self.entries.items) l.at.index))) (map (slot (links_of l.self.entries.items)) (range_with_len 0 l.i));
  space : l.space ≡ sum_by (slot_share (space_share (place_of (links_of l.self.entries.items) l.at.index))) (map (slot (links_of l.self.entries.items)) (range_with_len 0 l.i));
  few : l.names ≤ l.i;
  little : l.space ≤ l.i * 2 ^ 64;
}
