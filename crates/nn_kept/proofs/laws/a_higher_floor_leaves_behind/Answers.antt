use Rattle.nn_kept.proofs.KeptOnwardLemmas.{higher_floor_outranks}
use Rattle.nn_kept.proofs.laws.a_higher_floor_leaves_behind.Goals as goal

pub returns : goal.returns
returns c = higher_floor_outranks
