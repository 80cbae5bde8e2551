use Rattle.nn_run.proofs.OpeningLemmas.{opening_is_of_run}
use Rattle.nn_run.proofs.laws.an_opening_is_of_its_run.Goals as goal

pub returns : goal.returns
returns c = opening_is_of_run
