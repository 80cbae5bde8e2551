use Rattle.nn_whole.proofs.ServedLemmas.{first_is_said}
use Rattle.nn_whole.proofs.laws.the_opening_is_what_was_said.Goals as goal

pub returns : goal.returns
returns c = first_is_said
