use Rattle.nn_open.proofs.SurveyLemmas.{Surveyed}
use Rattle.nn_open.proofs.survey.survey.Given as goal

abbrev pub invariant-loop-i : goal.invariant-loop-i
invariant-loop-i g l = Surveyed g.H.Host.told l.i (g.H.Host.state l.fn.host) (g.H.Host.state l.host) l.first
