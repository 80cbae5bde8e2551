use Rattle.nn_kept.proofs.KeptEndsLemmas.{left_behind_is_kept}
use Rattle.nn_kept.proofs.laws.a_disk_left_behind_is_kept.Goals as goal

pub returns : goal.returns
returns c = left_behind_is_kept
