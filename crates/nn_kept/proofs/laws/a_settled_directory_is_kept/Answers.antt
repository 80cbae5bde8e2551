use Rattle.nn_kept.proofs.KeptFirstLemmas.{settled_is_kept}
use Rattle.nn_kept.proofs.laws.a_settled_directory_is_kept.Goals as goal

pub returns : goal.returns
returns c = settled_is_kept
