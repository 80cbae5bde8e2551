use Rattle.std.proofs.Common.{◌≡◌, true, length}
use Rattle.nn_tree.proofs.NextLemmas.{Climbed}
use Rattle.nn_tree.proofs.below.next_past.Given as goal

abbrev pub invariant-climb : goal.invariant-climb
invariant-climb g l = (g.T.Tree.has l.tree l.last ≡ true) × Climbed (g.T.Tree.meaning l.tree).nodes (g.T.Tree.place l.tree l.top) (g.T.Tree.place l.tree l.fn.at) (g.T.Tree.place l.tree l.last)

abbrev pub decreases-climb : goal.decreases-climb
decreases-climb g l = length (g.T.Tree.place l.tree l.last)
