use Rattle.nn_chain.proofs.LawLemmas.{no_reason_beside_intact}
use Rattle.nn_chain.proofs.laws.no_reason_beside_an_intact_image.Goals as goal

pub returns : goal.returns
returns c = no_reason_beside_intact
