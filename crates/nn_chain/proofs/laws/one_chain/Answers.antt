use Rattle.nn_chain.proofs.ChainLemmas.{one_chain}
use Rattle.nn_chain.proofs.laws.one_chain.Goals as goal

pub returns : goal.returns
returns c = one_chain
