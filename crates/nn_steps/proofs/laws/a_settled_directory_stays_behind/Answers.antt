use Rattle.nn_steps.proofs.SettledLemmas.{settled_stays_behind}
use Rattle.nn_steps.proofs.laws.a_settled_directory_stays_behind.Goals as goal

pub returns : goal.returns
returns c = settled_stays_behind
