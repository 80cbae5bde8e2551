use Rattle.nn_whole.proofs.ClosedLemmas.{closed_is_kept}
use Rattle.nn_whole.proofs.laws.a_run_that_is_closed_is_kept.Goals as goal

pub returns : goal.returns
returns c = closed_is_kept
