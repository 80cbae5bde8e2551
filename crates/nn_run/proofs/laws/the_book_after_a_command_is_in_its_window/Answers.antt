use Rattle.nn_run.proofs.WindowLemmas.{after_in_window}
use Rattle.nn_run.proofs.laws.the_book_after_a_command_is_in_its_window.Goals as goal

pub returns : goal.returns
returns c = after_in_window
