use Rattle.nn_run.proofs.StopLemmas.{run_stops}
use Rattle.nn_run.proofs.laws.a_kept_run_stops_so.Goals as goal

pub returns : goal.returns
returns c = run_stops
