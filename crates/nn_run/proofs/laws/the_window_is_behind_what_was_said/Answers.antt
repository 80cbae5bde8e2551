use Rattle.nn_run.proofs.WindowLemmas.{window_behind}
use Rattle.nn_run.proofs.laws.the_window_is_behind_what_was_said.Goals as goal

pub returns : goal.returns
returns c = window_behind
