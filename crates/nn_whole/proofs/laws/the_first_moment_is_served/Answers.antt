use Rattle.nn_whole.proofs.ServingLemmas.{serving_first}
use Rattle.nn_whole.proofs.laws.the_first_moment_is_served.Goals as goal

pub returns : goal.returns
returns c = serving_first
