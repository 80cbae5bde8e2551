use Rattle.nn_pick.proofs.LawLemmas.{one_refuses}
use Rattle.nn_pick.proofs.laws.one_refuses.Goals as goal

pub returns : goal.returns
returns c = one_refuses
