use Rattle.nn_whole.proofs.OpenedLemmas.{start_is_of_run}
use Rattle.nn_whole.proofs.laws.a_start_is_of_its_run.Goals as goal

pub returns : goal.returns
returns c = start_is_of_run
