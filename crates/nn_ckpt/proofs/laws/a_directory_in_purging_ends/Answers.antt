use Rattle.nn_ckpt.proofs.PurgingLemmas.{purging_ends}
use Rattle.nn_ckpt.proofs.laws.a_directory_in_purging_ends.Goals as goal

pub returns : goal.returns
returns c = purging_ends
