use Rattle.nn_fill.proofs.TallyEndLemmas.{tally_is_closed}
use Rattle.nn_fill.proofs.laws.a_tallied_run_that_is_closed_is_kept.Goals as goal

pub returns : goal.returns
returns c = tally_is_closed
