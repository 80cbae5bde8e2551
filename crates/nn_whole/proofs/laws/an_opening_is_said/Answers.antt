use Rattle.nn_whole.proofs.OpenedLemmas.{opening_is_said}
use Rattle.nn_whole.proofs.laws.an_opening_is_said.Goals as goal

pub returns : goal.returns
returns c = opening_is_said
