use Rattle.nn_kept.proofs.KeptRunLemmas.{kept_runs}
use Rattle.nn_kept.proofs.laws.kept_runs.Goals as goal

pub returns : goal.returns
returns c = kept_runs
