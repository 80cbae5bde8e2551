use Rattle.nn_fill.proofs.TallyEndLemmas.{tally_is_said}
use Rattle.nn_fill.proofs.laws.a_tally_is_kept.Goals as goal

pub returns : goal.returns
returns c = tally_is_said
