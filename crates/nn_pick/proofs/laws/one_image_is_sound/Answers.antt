use Rattle.nn_pick.proofs.OneImageLemmas.{one_image_is_sound}
use Rattle.nn_pick.proofs.laws.one_image_is_sound.Goals as goal

pub returns : goal.returns
returns c = one_image_is_sound
