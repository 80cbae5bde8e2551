use Rattle.nn_whole.proofs.CountedLemmas.{next_is_counted}
use Rattle.nn_whole.proofs.laws.the_next_step_is_counted.Goals as goal

pub returns : goal.returns
returns c = next_is_counted
