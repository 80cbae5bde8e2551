-- One more digit is within the bound of four digits.
use Rattle.std.proofs.Common.{arith}
use Rattle.nn_script.proofs.OctalLemmas.{one_more}
use Rattle.nn_script.proofs.argument.octal.Goals as goal

pub overflow_mul-number : goal.overflow_mul-number
overflow_mul-number c =
    let step = one_more c.args.digits.now c.loop-digit.digit-index c.loop-digit-test.true c.requires.few c.requires.digits c.loop-digit.invariant.digits in
    omega (arith, step.value, step.bound)

pub overflow_add-number : goal.overflow_add-number
overflow_add-number c =
    let step = one_more c.args.digits.now c.loop-digit.digit-index c.loop-digit-test.true c.requires.few c.requires.digits c.loop-digit.invariant.digits in
    omega (arith, step.value, step.bound)

pub loop-digit-preserved : goal.loop-digit-preserved
loop-digit-preserved c =
    let step = one_more c.args.digits.now c.loop-digit.digit-index c.loop-digit-test.true c.requires.few c.requires.digits c.loop-digit.invariant.digits in
    record { digits = step.digits; value = omega (arith, step.value) }
