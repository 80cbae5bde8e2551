use Rattle.nn_ckpt.proofs.LoggingLemmas.{logging_keeps_two}
use Rattle.nn_ckpt.proofs.laws.two_images_stay_while_a_log_is_written.Goals as goal

pub returns : goal.returns
returns c = logging_keeps_two
