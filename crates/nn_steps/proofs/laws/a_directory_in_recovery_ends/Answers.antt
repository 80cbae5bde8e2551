use Rattle.nn_steps.proofs.RecoveredLemmas.{recovering_ends}
use Rattle.nn_steps.proofs.laws.a_directory_in_recovery_ends.Goals as goal

pub returns : goal.returns
returns c = recovering_ends
