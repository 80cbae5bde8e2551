use Rattle.nn_run.proofs.StepLemmas.{step_goes_on}
use Rattle.nn_run.proofs.laws.a_step_goes_on.Goals as goal

pub returns : goal.returns
returns c = step_goes_on
