use Rattle.nn_kept.proofs.KeptOnwardLemmas.{same_seat_ends}
use Rattle.nn_kept.proofs.laws.a_seat_that_stays_ends.Goals as goal

pub returns : goal.returns
returns c = same_seat_ends
