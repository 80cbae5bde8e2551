use Rattle.nn_steps.proofs.SettledLemmas.{settled_ends}
use Rattle.nn_steps.proofs.laws.a_settled_directory_ends.Goals as goal

pub returns : goal.returns
returns c = settled_ends
