use Rattle.nn_whole.proofs.StoppedLemmas.{run_kept_leaves}
use Rattle.nn_whole.proofs.laws.a_kept_run_leaves_so.Goals as goal

pub returns : goal.returns
returns c = run_kept_leaves
