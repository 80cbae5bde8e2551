use Rattle.nn_ckpt.proofs.LoggingLemmas.{logging_keeps_pruned}
use Rattle.nn_ckpt.proofs.laws.a_directory_stays_pruned_while_a_log_is_written.Goals as goal

pub returns : goal.returns
returns c = logging_keeps_pruned
