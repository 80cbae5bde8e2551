use Rattle.nn_choose.proofs.StatesLemmas.{Surveyed}
use Rattle.nn_choose.proofs.states.survey.Given as goal

abbrev pub invariant-loop-i : goal.invariant-loop-i
invariant-loop-i g l = Surveyed g.H.Host.told l.i (g.H.Host.state l.fn.host) (g.H.Host.state l.host) l.states.found.items l.states.serving.items
