use Rattle.nn_run.proofs.WindowLemmas.{step_in_window}
use Rattle.nn_run.proofs.laws.a_step_is_in_the_window_of_its_run.Goals as goal

pub returns : goal.returns
returns c = step_in_window
