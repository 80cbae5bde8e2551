use Rattle.nn_whole.proofs.ServedLemmas.{silent_is_said}
use Rattle.nn_whole.proofs.laws.a_silent_line_says_nothing.Goals as goal

pub returns : goal.returns
returns c = silent_is_said
