use Rattle.nn_fill.proofs.TallyEndLemmas.{tally_leaves}
use Rattle.nn_fill.proofs.laws.a_tallied_run_leaves_so.Goals as goal

pub returns : goal.returns
returns c = tally_leaves
