use Rattle.nn_kept.proofs.KeptEndsLemmas.{of_run_ends}
use Rattle.nn_kept.proofs.laws.a_directory_of_the_run_ends.Goals as goal

pub returns : goal.returns
returns c = of_run_ends
