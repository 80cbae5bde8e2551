use Rattle.nn_run.proofs.SyncLemmas.{saying_is_kept}
use Rattle.nn_run.proofs.laws.a_line_that_changes_nothing_is_kept.Goals as goal

pub returns : goal.returns
returns c = saying_is_kept
