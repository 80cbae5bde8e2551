use Rattle.std.proofs.Common.{◌≡◌, map, length}
use Rattle.std.specs.Prelude.{sum_by}
use Rattle.std.specs.List.{range_with_len}
use Rattle.nn_tree.specs.Nodes.{blocks_of}
use Rattle.nn_tree.specs.Slots.{slot_share}
use Rattle.nn_tree.specs.Links.{slot}
use Rattle.nn_tree.specs.Plain.{links_of}
use Rattle.nn_tree.proofs.plain.PlainTreeTree.blocks.Given as goal

abbrev pub invariant-loop-i : goal.invariant-loop-i
invariant-loop-i l = l.count ≡ sum_by (slot_share (λ p node. length (blocks_of node.kind))) (map (slot (links_of l.self.entries.items)) (range_with_len 0 l.i))
