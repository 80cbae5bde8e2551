use Rattle.nn_kept.proofs.KeptEndsLemmas.{held_image_ends}
use Rattle.nn_kept.proofs.laws.a_held_image_ends.Goals as goal

pub returns : goal.returns
returns c = held_image_ends
