use Rattle.nn_whole.proofs.ServedLemmas.{next_is_said}
use Rattle.nn_whole.proofs.laws.the_next_line_is_said.Goals as goal

pub returns : goal.returns
returns c = next_is_said
