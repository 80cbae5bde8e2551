use Rattle.nn_run.proofs.RestoreLemmas.{restoring_is_kept}
use Rattle.nn_run.proofs.laws.a_line_that_restores_is_kept.Goals as goal

pub returns : goal.returns
returns c = restoring_is_kept
