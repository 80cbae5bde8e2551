use Rattle.std.proofs.Common.{◌≡◌, take, drop}
use Rattle.nn_tree.specs.Plain.{links_of}
use Rattle.nn_tree.proofs.FindLemmas.{Here}
use Rattle.nn_tree.proofs.plain.PlainTree.walk.Given as goal

abbrev pub invariant-loop-k : goal.invariant-loop-k
invariant-loop-k l = record {
  here : Here (links_of l.self.entries.items) (take l.levels l.path) l._k l.at;
  left : l.names ≡ drop l._k l.path;
}
