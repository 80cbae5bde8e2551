use Rattle.nn_whole.proofs.ServingLemmas.{serving_out}
use Rattle.nn_whole.proofs.laws.an_unanswered_line_is_kept.Goals as goal

pub returns : goal.returns
returns c = serving_out
