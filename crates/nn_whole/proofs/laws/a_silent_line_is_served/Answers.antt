use Rattle.nn_whole.proofs.ServingLemmas.{serving_silent}
use Rattle.nn_whole.proofs.laws.a_silent_line_is_served.Goals as goal

pub returns : goal.returns
returns c = serving_silent
