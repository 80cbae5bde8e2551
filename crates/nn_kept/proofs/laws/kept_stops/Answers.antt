use Rattle.nn_kept.proofs.KeptStopLemmas.{kept_stops}
use Rattle.nn_kept.proofs.laws.kept_stops.Goals as goal

pub returns : goal.returns
returns c = kept_stops
