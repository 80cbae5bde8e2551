use Rattle.std.proofs.Common.{sym, ◌∙◌}
use Rattle.nn_ops.proofs.AboveLemmas.{room_fails, room_goes_on}
use Rattle.nn_ops.proofs.room.fits_above.Goals as goal

pub returns-then-not-fits_at : goal.returns-then-not-fits_at
returns-then-not-fits_at g c =
    let m = (g.T.Tree.meaning c.args.tree.now).nodes in
    let up = c.in-Some.ensures.1 in
    sym (c.loop-above.invariant.1 ∙ room_fails m c.args.more _ (g.T.Tree.place c.args.tree.now c.in-Some.above) up.0 up.1 (sym c.if-not-fits_at.ensures))

pub loop-above-preserved : goal.loop-above-preserved
loop-above-preserved g c =
    let m = (g.T.Tree.meaning c.args.tree.now).nodes in
    let up = c.in-Some.ensures.1 in
    (c.in-Some.ensures.0, c.loop-above.invariant.1 ∙ room_goes_on m c.args.more _ (g.T.Tree.place c.args.tree.now c.in-Some.above) up.0 up.1 (sym c.if-not-fits_at.ensures))
