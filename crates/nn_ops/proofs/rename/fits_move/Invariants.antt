use Rattle.std.proofs.Common.{◌≡◌, ◌<◌, ◌+◌, true, take, length}
use Rattle.nn_ops.specs.Above.{is_above, has_room_but}
use Rattle.nn_ops.proofs.rename.fits_move.Given as goal

abbrev pub invariant-loop-level : goal.invariant-loop-level
invariant-loop-level g l =
    let m = (g.T.Tree.meaning l.tree).nodes in
    (l.level < length l.to)
    × (g.T.Tree.has l.tree l.dir ≡ true)
    × (g.T.Tree.place l.tree l.dir ≡ take l.level l.to)
    × (has_room_but m (λ q. is_above q l.from) l.more l.to ≡ has_room_but m (λ q. is_above q l.from) l.more (take (l.level + 1) l.to))

abbrev pub decreases-loop-level : goal.decreases-loop-level
decreases-loop-level g l = l.level
