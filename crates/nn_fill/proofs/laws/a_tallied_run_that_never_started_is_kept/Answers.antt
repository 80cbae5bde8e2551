use Rattle.nn_fill.proofs.TallyEndLemmas.{early_tally_is_kept}
use Rattle.nn_fill.proofs.laws.a_tallied_run_that_never_started_is_kept.Goals as goal

pub returns : goal.returns
returns c = early_tally_is_kept
