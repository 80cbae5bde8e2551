use Rattle.nn_ckpt.proofs.PurgingLemmas.{purging_stands}
use Rattle.nn_ckpt.proofs.laws.a_directory_in_purging_stands.Goals as goal

pub returns : goal.returns
returns c = purging_stands
