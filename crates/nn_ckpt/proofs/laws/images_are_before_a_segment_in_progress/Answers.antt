use Rattle.nn_ckpt.proofs.TwoLemmas.{images_are_before}
use Rattle.nn_ckpt.proofs.laws.images_are_before_a_segment_in_progress.Goals as goal

pub returns : goal.returns
returns c = images_are_before
