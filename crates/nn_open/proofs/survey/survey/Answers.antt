use Rattle.nn_open.proofs.SurveyLemmas.{surveyed_run, surveyed_more}
use Rattle.nn_open.proofs.survey.survey.Goals as goal

pub returns-in-Err-clause-any_moment : goal.returns-in-Err-clause-any_moment
returns-in-Err-clause-any_moment g c = surveyed_run c.loop-i.invariant c.in-Err.ensures.any_moment

pub loop-i-preserved : goal.loop-i-preserved
loop-i-preserved g c = surveyed_more c.loop-i.invariant c.in-Ok.ensures.any_moment c.in-Ok.refusal _ c.in-Ok.ensures.cause.ok c.in-Ok.ensures.kept c.in-Ok.ensures.settled c.in-Ok.ensures.value c.earlier-first.ensures
