use Rattle.std.proofs.Common.{arith}
use Rattle.nn_start.proofs.TidyLemmas.{tidying_none, tidying_run, tidying_quiet, tidying_beside, tidying_rose, tidying_more, tidied_all, tidied_kept}
use Rattle.nn_start.proofs.tidying.tidy_all.Goals as goal

pub loop-i-init : goal.loop-i-init
loop-i-init g c = tidying_none

pub loop-i-preserved : goal.loop-i-preserved
loop-i-preserved g c = tidying_more c.loop-i.invariant (omega arith) c.in-Ok.ensures.any_moment c.in-Ok.ensures.cause (λ tells. g.met.H.Host.lawful tells c.loop-i.host) c.in-Ok.ensures.ok c.in-Ok.ensures.tidy

pub returns-in-Err-Failed-clause-cause : goal.returns-in-Err-Failed-clause-cause
returns-in-Err-Failed-clause-cause g c = tidying_rose c.loop-i.invariant (omega arith) c.in-Err-Failed.ensures.any_moment (rw c.in-Err-Failed.field-0-is at c.in-Err-Failed.ensures.cause)

pub returns-clause-rests : goal.returns-clause-rests
returns-clause-rests g c = λ tells. tidied_all c.loop-i.invariant (omega arith) tells

pub returns-clause-kept : goal.returns-clause-kept
returns-clause-kept g c = tidied_kept c.loop-i.invariant

pub returns-in-Err-Failed-clause-kept : goal.returns-in-Err-Failed-clause-kept
returns-in-Err-Failed-clause-kept g c = tidying_run c.loop-i.invariant (omega arith) c.in-Err-Failed.ensures.any_moment

pub returns-in-Err-Failed-clause-quiet : goal.returns-in-Err-Failed-clause-quiet
returns-in-Err-Failed-clause-quiet g c = tidying_quiet c.loop-i.invariant (omega arith) c.in-Err-Failed.ensures.any_moment

pub returns-in-Err-Failed-clause-beside : goal.returns-in-Err-Failed-clause-beside
returns-in-Err-Failed-clause-beside g c = tidying_beside c.loop-i.invariant (omega arith) c.in-Err-Failed.ensures.any_moment

pub returns-in-Err-Memory-clause-kept : goal.returns-in-Err-Memory-clause-kept
returns-in-Err-Memory-clause-kept g c = tidying_run c.loop-i.invariant (omega arith) c.in-Err-Memory.ensures.any_moment

pub returns-in-Err-Memory-clause-quiet : goal.returns-in-Err-Memory-clause-quiet
returns-in-Err-Memory-clause-quiet g c = tidying_quiet c.loop-i.invariant (omega arith) c.in-Err-Memory.ensures.any_moment

pub returns-in-Err-Memory-clause-beside : goal.returns-in-Err-Memory-clause-beside
returns-in-Err-Memory-clause-beside g c = tidying_beside c.loop-i.invariant (omega arith) c.in-Err-Memory.ensures.any_moment

pub returns-clause-tidy : goal.returns-clause-tidy
returns-clause-tidy g c = λ tells i below. c.loop-i.invariant.tidy tells i (omega arith)
