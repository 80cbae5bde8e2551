use Rattle.nn_steps.proofs.SettledLemmas.{published_is_intact}
use Rattle.nn_steps.proofs.laws.a_published_image_is_intact.Goals as goal

pub returns : goal.returns
returns c = published_is_intact
