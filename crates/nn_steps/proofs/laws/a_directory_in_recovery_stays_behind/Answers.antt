use Rattle.nn_steps.proofs.RecoveredLemmas.{recovering_leaves_behind}
use Rattle.nn_steps.proofs.laws.a_directory_in_recovery_stays_behind.Goals as goal

pub returns : goal.returns
returns c = recovering_leaves_behind
