use Rattle.nn_kept.proofs.KeptOnwardLemmas.{outranked_is_kept}
use Rattle.nn_kept.proofs.laws.directories_left_behind_are_kept.Goals as goal

pub returns : goal.returns
returns c = outranked_is_kept
