use Rattle.nn_run.proofs.SyncLemmas.{syncing_is_kept}
use Rattle.nn_run.proofs.laws.a_line_that_is_synced_is_kept.Goals as goal

pub returns : goal.returns
returns c = syncing_is_kept
