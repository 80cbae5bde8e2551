use Rattle.nn_ckpt.proofs.TwoLemmas.{purging_keeps_two}
use Rattle.nn_ckpt.proofs.laws.two_images_stay_in_purging.Goals as goal

pub returns : goal.returns
returns c = purging_keeps_two
