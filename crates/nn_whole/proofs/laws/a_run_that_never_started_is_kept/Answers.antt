use Rattle.nn_whole.proofs.ClosedLemmas.{early_is_kept}
use Rattle.nn_whole.proofs.laws.a_run_that_never_started_is_kept.Goals as goal

pub returns : goal.returns
returns c = early_is_kept
