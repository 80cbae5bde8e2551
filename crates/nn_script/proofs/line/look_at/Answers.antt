use Rattle.std.proofs.Common.{refl, arith}
use Rattle.nn_script.proofs.GapLemmas.{gap_is}
use Rattle.nn_script.proofs.line.look_at.Goals as goal

pub loop-i-init : goal.loop-i-init
loop-i-init c = record { text = refl; gap = gap_is c.args.line.now; behind = omega arith }
