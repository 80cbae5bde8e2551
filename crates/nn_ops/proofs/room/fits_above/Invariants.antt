use Rattle.std.proofs.Common.{◌≡◌, true, length}
use Rattle.nn_ops.specs.Above.{has_room}
use Rattle.nn_ops.proofs.room.fits_above.Given as goal

abbrev pub invariant-loop-above : goal.invariant-loop-above
invariant-loop-above g l =
    (g.T.Tree.has l.tree l.below ≡ true)
    × (has_room (g.T.Tree.meaning l.tree).nodes l.more (g.T.Tree.place l.tree l.initial.below) ≡ has_room (g.T.Tree.meaning l.tree).nodes l.more (g.T.Tree.place l.tree l.below))

abbrev pub decreases-loop-above : goal.decreases-loop-above
decreases-loop-above g l = length (g.T.Tree.place l.tree l.below)
