use Rattle.nn_run.proofs.LineLemmas.{last_is_reached}
use Rattle.nn_run.proofs.laws.the_last_book_is_reached.Goals as goal

pub returns : goal.returns
returns c = last_is_reached
