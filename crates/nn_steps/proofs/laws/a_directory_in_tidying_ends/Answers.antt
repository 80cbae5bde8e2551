use Rattle.nn_steps.proofs.TidiedLemmas.{tidying_ends}
use Rattle.nn_steps.proofs.laws.a_directory_in_tidying_ends.Goals as goal

pub returns : goal.returns
returns c = tidying_ends
