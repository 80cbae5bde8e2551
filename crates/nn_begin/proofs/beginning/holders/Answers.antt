use Rattle.std.proofs.Common.{◌+◌, subst, arith, sym}
use Rattle.nn_begin.proofs.HoldLemmas.{Holding, holding_none, element_there, holding_more, holding_past}
use Rattle.nn_begin.proofs.beginning.holders.Goals as goal
use Rattle.nn_begin.proofs.beginning.holders.Goals.{then-has_previous, else-has_previous}

pub loop-at-init : goal.loop-at-init
loop-at-init c = holding_none c.none-set.ensures

pub loop-at-preserved : goal.loop-at-preserved
loop-at-preserved c =
    let here = element_there c.args.bay.now.at.items c.deref-at-items.result.now c.loop-at.at-index _ c.deref-at-items.ensures.value (omega (arith, c.loop-at-test.true, c.loop-at.auto.at-index-end, c.deref-at-items.ensures.len)) in
    elim c.if-has_previous.branch [
      | then-has_previous w ↦ subst (Holding c.args.bay.now.at.items (c.loop-at.at-index + 1)) (sym w.set-is) (holding_more c.loop-at.invariant here (c.requires.placed c.loop-at.at-index _ here) c.has_previous.ensures w.dir.result w.if-has_previous.true w.dir.ensures w.with-set.ensures)
      | else-has_previous w ↦ subst (Holding c.args.bay.now.at.items (c.loop-at.at-index + 1)) (sym w.set-is) (holding_past c.loop-at.invariant here (c.requires.placed c.loop-at.at-index _ here) c.has_previous.ensures w.if-has_previous.false)
    ]
