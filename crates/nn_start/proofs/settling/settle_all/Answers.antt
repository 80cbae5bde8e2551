use Rattle.nn_start.proofs.SettleLemmas.{settling_run, settling_quiet, settling_more}
use Rattle.nn_start.proofs.settling.settle_all.Goals as goal

pub returns-in-Err-clause-any_moment : goal.returns-in-Err-clause-any_moment
returns-in-Err-clause-any_moment g c = settling_run c.loop-i.invariant c.in-Err.ensures

pub returns-in-Err-clause-quiet : goal.returns-in-Err-clause-quiet
returns-in-Err-clause-quiet g c = settling_quiet c.loop-i.invariant c.in-Err.ensures

pub loop-i-preserved : goal.loop-i-preserved
loop-i-preserved g c = settling_more c.loop-i.invariant c.in-Ok.ensures
