use Rattle.std.proofs.Common.{◌∙◌, sym, ap, arith}
use Rattle.nn_journal.proofs.AmongLemmas.{walk_begins, walk_past, walk_on, walk_drops, walked_as}
use Rattle.nn_journal.proofs.among.step_among.Goals as goal
use Rattle.nn_journal.proofs.among.step_among.Goals.{then-has+in-Ok, then-has+in-Err, else-has}

pub loop-i-init : goal.loop-i-init
loop-i-init g c = walk_begins

pub step_at-requires-clause-below : goal.step_at-requires-clause-below
step_at-requires-clause-below g c = omega (arith, c.requires.below c.loop-i.i (sym c.has.ensures ∙ c.if-has.true), c.loop-i.invariant.count)

pub loop-i-preserved : goal.loop-i-preserved
loop-i-preserved g c = elim c.if-has.branch [
  | then-has+in-Ok w ↦ walked_as w.live-is (ap g.H.Host.state w.host-is)
      (walk_on c.loop-i.invariant (sym c.has.ensures ∙ w.if-has.true) w.in-Ok.ensures.beside w.in-Ok.ensures.any_moment w.in-Ok.ensures.still w.in-Ok.ensures.calls w.in-Ok.ensures.cause.ok w.in-Ok.ensures.ok)
  | then-has+in-Err w ↦ walked_as w.live-is (ap g.H.Host.state w.host-is)
      (walk_drops c.loop-i.invariant (sym c.has.ensures ∙ w.if-has.true) w.in-Err.ensures.beside w.in-Err.ensures.any_moment w.in-Err.ensures.still w.in-Err.ensures.calls w.without.ensures w.in-Err.ensures.cause.err)
  | else-has w ↦ walked_as w.live-is (ap g.H.Host.state w.host-is) (walk_past c.loop-i.invariant (sym c.has.ensures ∙ w.if-has.false))
]
