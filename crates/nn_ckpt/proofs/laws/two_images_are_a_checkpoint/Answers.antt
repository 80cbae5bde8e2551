use Rattle.nn_ckpt.proofs.TwoLemmas.{two_are_checkpointed}
use Rattle.nn_ckpt.proofs.laws.two_images_are_a_checkpoint.Goals as goal

pub returns : goal.returns
returns c = two_are_checkpointed
