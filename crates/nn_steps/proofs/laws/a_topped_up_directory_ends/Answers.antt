use Rattle.nn_steps.proofs.BroughtLemmas.{topped_up_ends}
use Rattle.nn_steps.proofs.laws.a_topped_up_directory_ends.Goals as goal

pub returns : goal.returns
returns c = topped_up_ends
