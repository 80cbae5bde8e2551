use Rattle.std.proofs.Common.{◌≡◌, length, subst, arith}
use Rattle.nn_base.specs.DirSets.{has}
use Rattle.nn_choose.specs.Served.{AreOfCtime}
use Rattle.nn_choose.proofs.CtimeLemmas.{none_alike, alike_more, alike_stays}
use Rattle.nn_choose.proofs.leading.with_ctime.Goals as goal

pub loop-i-init : goal.loop-i-init
loop-i-init c = none_alike c.args.served.now c.args.ctime (has c.none-set.result) c.none-set.ensures

pub loop-i-preserved : goal.loop-i-preserved
loop-i-preserved c = alike_more c.args.served.now c.args.ctime c.loop-i.i (has c.loop-i.set) (has c.with-set.result) c.in-Some.field-0 c.in-Some.ensures.some.0 c.in-Some.ensures.some.1 c.with-set.ensures c.loop-i.invariant

pub loop-i-preserved-in_default : goal.loop-i-preserved-in_default
loop-i-preserved-in_default c = alike_stays c.args.served.now c.args.ctime c.loop-i.i (has c.loop-i.set) c.in_default.ensures.none c.loop-i.invariant

pub returns : goal.returns
returns c =
    let same : c.loop-i.i ≡ length c.args.served.now = omega (arith, c.loop-i.auto.i-end, c.loop-i-test.false) in
    subst (λ n. AreOfCtime c.args.served.now c.args.ctime n (has c.loop-i.set)) same c.loop-i.invariant
