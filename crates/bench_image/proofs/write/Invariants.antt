use Rattle.std.proofs.Common.{◌≤◌, length}
use Rattle.nn_image.specs.Saving.{Saves}
use Rattle.bench_image.proofs.write.Given as goal

-- the pieces so far are a front of the bytes
abbrev pub invariant-pieces : goal.invariant-pieces
invariant-pieces g l = record {
  saves : Saves l.saver (g.T.Tree.meaning l.loaded.tree) (g.T.Tree.has l.loaded.tree) (g.T.Tree.place l.loaded.tree);
  within : l.at ≤ length l.bytes;
}
