use Rattle.nn_run.proofs.RestoreLemmas.{emptying_is_kept}
use Rattle.nn_run.proofs.laws.a_directory_that_is_emptied_is_kept.Goals as goal

pub returns : goal.returns
returns c = emptying_is_kept
