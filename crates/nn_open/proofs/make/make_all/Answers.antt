use Rattle.nn_open.proofs.MakeLemmas.{made_run, made_more}
use Rattle.nn_open.proofs.make.make_all.Goals as goal

pub returns-in-Err-Failed-clause-any_moment : goal.returns-in-Err-Failed-clause-any_moment
returns-in-Err-Failed-clause-any_moment g c = made_run c.loop-i.invariant c.in-Err-Failed.ensures.any_moment

pub returns-in-Err-Memory-clause-any_moment : goal.returns-in-Err-Memory-clause-any_moment
returns-in-Err-Memory-clause-any_moment g c = made_run c.loop-i.invariant c.in-Err-Memory.ensures.any_moment

pub loop-i-preserved : goal.loop-i-preserved
loop-i-preserved g c = made_more c.loop-i.invariant c.in-Ok.ensures.any_moment c.in-Ok.ensures.cause c.in-Ok.ensures.ok
