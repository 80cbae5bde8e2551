use Rattle.std.specs.Prelude.{[]}
use Rattle.nn_tree.specs.Below.{IsBelow}
use Rattle.bench_image.proofs.walk.Given as goal

-- the walk stays below the root
abbrev pub invariant-nodes : goal.invariant-nodes
invariant-nodes g l = IsBelow l.next (g.T.Tree.has l.tree) (g.T.Tree.place l.tree) (g.T.Tree.place l.tree l.root)
