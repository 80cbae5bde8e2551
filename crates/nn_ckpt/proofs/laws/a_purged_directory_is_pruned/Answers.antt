use Rattle.nn_ckpt.proofs.TwoLemmas.{purged_is_pruned}
use Rattle.nn_ckpt.proofs.laws.a_purged_directory_is_pruned.Goals as goal

pub returns : goal.returns
returns c = purged_is_pruned
