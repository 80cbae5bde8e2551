use Rattle.nn_chain.proofs.LawLemmas.{one_reason}
use Rattle.nn_chain.proofs.laws.one_reason.Goals as goal

pub returns : goal.returns
returns c = one_reason
