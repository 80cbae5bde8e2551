use Rattle.std.proofs.Common.{◌∙◌, sym, ap, arith}
use Rattle.nn_ckpt.proofs.EachLemmas.{doing_begins, doing_past, doing_on, doing_fails, doing_stops, doing_as}
use Rattle.nn_ckpt.proofs.PurgeLemmas.{purging_none, purged_of_dir}
use Rattle.nn_ckpt.proofs.purging.purge_each.Goals as goal
use Rattle.nn_ckpt.proofs.purging.purge_each.Goals.{then-live+in-Ok, then-live+in-Err-Failed, else-live}

pub loop-i-init : goal.loop-i-init
loop-i-init g c = doing_begins purging_none c.requires.none

pub purge_dir-requires : goal.purge_dir-requires
purge_dir-requires g c = omega (arith, c.requires.below c.loop-i.i (sym c.live.ensures ∙ c.if-live.true), c.loop-i.invariant.count)

pub returns-in-Err-Memory-clause-each : goal.returns-in-Err-Memory-clause-each
returns-in-Err-Memory-clause-each g c = doing_stops c.loop-i.invariant (sym c.live.ensures ∙ c.if-live.true) c.in-Err-Memory.ensures.any_moment c.in-Err-Memory.ensures.still c.in-Err-Memory.field-0 c.in-Err-Memory.field-0-is c.in-Err-Memory.ensures.cause

pub loop-i-preserved : goal.loop-i-preserved
loop-i-preserved g c =
    let of_dir = purged_of_dir in
    elim c.if-live.branch [
      | then-live+in-Ok w ↦ doing_as w.failed-is (ap g.H.Host.state w.host-is)
          (doing_on c.loop-i.invariant (sym c.live.ensures ∙ w.if-live.true) w.in-Ok.ensures.any_moment w.in-Ok.ensures.still of_dir w.in-Ok.ensures.cause w.in-Ok.ensures.ok)
      | then-live+in-Err-Failed w ↦ doing_as w.failed-is (ap g.H.Host.state w.host-is)
          (doing_fails c.loop-i.invariant (sym c.live.ensures ∙ w.if-live.true) w.in-Err-Failed.ensures.any_moment w.in-Err-Failed.ensures.still of_dir w.with.ensures w.in-Err-Failed.field-0 w.in-Err-Failed.field-0-is w.in-Err-Failed.ensures.cause)
      | else-live w ↦ doing_as w.failed-is (ap g.H.Host.state w.host-is) (doing_past c.loop-i.invariant (sym c.live.ensures ∙ w.if-live.false))
    ]
