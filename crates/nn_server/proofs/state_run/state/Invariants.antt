use Rattle.nn_server.proofs.StatesLemmas.{SoFar}
use Rattle.nn_server.proofs.state_run.state.Given as goal

abbrev pub invariant-loop-i : goal.invariant-loop-i
invariant-loop-i g l = SoFar g.H.Host.told l.i (g.H.Host.state l.fn.host) (g.H.Host.state l.host) l.first
