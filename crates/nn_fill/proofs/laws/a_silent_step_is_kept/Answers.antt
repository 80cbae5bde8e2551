use Rattle.nn_fill.proofs.TallyLemmas.{tallying_next}
use Rattle.nn_fill.proofs.laws.a_silent_step_is_kept.Goals as goal

pub returns : goal.returns
returns c = tallying_next
