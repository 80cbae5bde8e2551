use Rattle.nn_whole.proofs.LeavingLemmas.{ending_is_kept}
use Rattle.nn_whole.proofs.laws.a_run_that_is_ended_is_kept.Goals as goal

pub returns : goal.returns
returns c = ending_is_kept
