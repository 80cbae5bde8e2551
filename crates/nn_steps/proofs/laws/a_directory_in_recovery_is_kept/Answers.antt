use Rattle.nn_steps.proofs.RecoveredLemmas.{recovering_keeps}
use Rattle.nn_steps.proofs.laws.a_directory_in_recovery_is_kept.Goals as goal

pub returns : goal.returns
returns c = recovering_keeps
