use Rattle.nn_whole.proofs.ServingLemmas.{serving_next}
use Rattle.nn_whole.proofs.laws.the_next_line_is_served.Goals as goal

pub returns : goal.returns
returns c = serving_next
