use Rattle.nn_pick.proofs.AloneLemmas.{opens_alone}
use Rattle.nn_pick.proofs.laws.an_image_opens_alone.Goals as goal

pub returns : goal.returns
returns c = opens_alone
