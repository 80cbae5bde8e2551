use Rattle.std.proofs.Common.{◌-◌}
use Rattle.nn_base.specs.Limits.{most_levels}
use Rattle.nn_ops.proofs.ShortLemmas.{SoFar, behind, IsChild}
use Rattle.nn_ops.proofs.rename.+below_is_short.Given as goal

abbrev pub invariant-loop-next : goal.invariant-loop-next
invariant-loop-next g l =
    let m = (g.T.Tree.meaning l.tree).nodes in
    let place = g.T.Tree.place l.tree in
    IsChild (g.T.Tree.has l.tree) place (place l.fn.at) l.next × SoFar m (place l.fn.at) l.levels l.size place l.next

abbrev pub decreases-loop-next : goal.decreases-loop-next
decreases-loop-next g l = behind (g.T.Tree.place l.tree) (g.T.Tree.meaning l.tree).nodes l.next

abbrev pub decreases-below_is_short : goal.decreases-below_is_short
decreases-below_is_short g l = most_levels - l.levels
