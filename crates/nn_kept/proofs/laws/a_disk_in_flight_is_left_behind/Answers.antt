use Rattle.nn_kept.proofs.KeptEndsLemmas.{between_is_outranked}
use Rattle.nn_kept.proofs.laws.a_disk_in_flight_is_left_behind.Goals as goal

pub returns : goal.returns
returns c = between_is_outranked
