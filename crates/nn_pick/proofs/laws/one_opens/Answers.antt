use Rattle.nn_pick.proofs.OneOpeningLemmas.{one_opens}
use Rattle.nn_pick.proofs.laws.one_opens.Goals as goal

pub returns : goal.returns
returns c = one_opens
