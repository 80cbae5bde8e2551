use Rattle.nn_kept.proofs.KeptOnwardLemmas.{same_seat_is_kept}
use Rattle.nn_kept.proofs.laws.a_seat_that_stays_is_kept.Goals as goal

pub returns : goal.returns
returns c = same_seat_is_kept
