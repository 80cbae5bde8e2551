use Rattle.nn_kept.proofs.KeptOnwardLemmas.{cut_is_kept}
use Rattle.nn_kept.proofs.laws.a_directory_cut_down_is_kept.Goals as goal

pub returns : goal.returns
returns c = cut_is_kept
