use Rattle.std.proofs.Common.{◌≡◌, take, drop}
use Rattle.nn_tree.proofs.FindLemmas.{Here}
use Rattle.nn_arena.specs.Places.{links_of}
use Rattle.nn_arena.proofs.tree.ArenaTree.walk.Given as goal

abbrev pub invariant-loop-k : goal.invariant-loop-k
invariant-loop-k l = record {
  here : Here (links_of l.self.arena.places.items) (take l.levels l.path) l._k l.at;
  left : l.names ≡ drop l._k l.path;
}
