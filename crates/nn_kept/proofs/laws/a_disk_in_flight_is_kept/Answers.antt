use Rattle.nn_kept.proofs.KeptEndsLemmas.{between_is_kept}
use Rattle.nn_kept.proofs.laws.a_disk_in_flight_is_kept.Goals as goal

pub returns : goal.returns
returns c = between_is_kept
