use Rattle.std.proofs.Common.{vec_len}
use Rattle.nn_tidy.proofs.StepLemmas.{Taking}
use Rattle.nn_tidy.proofs.steps.take_all.Given as goal

abbrev pub invariant-steps : goal.invariant-steps
invariant-steps g l = Taking g.H.Host.told l.fn.steps.items l.steps.items l.fn.i.0 (g.H.Host.state l.fn.host) (g.H.Host.state l.host)

abbrev pub decreases-steps : goal.decreases-steps
decreases-steps g l = vec_len l.steps
