use Rattle.nn_steps.proofs.MadeLemmas.{made_ends}
use Rattle.nn_steps.proofs.laws.a_made_directory_ends.Goals as goal

pub returns : goal.returns
returns c = made_ends
