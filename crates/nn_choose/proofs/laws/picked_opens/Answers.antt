use Rattle.nn_choose.proofs.ChosenLemmas.{picked_opens}
use Rattle.nn_choose.proofs.laws.picked_opens.Goals as goal

pub returns : goal.returns
returns c = picked_opens
