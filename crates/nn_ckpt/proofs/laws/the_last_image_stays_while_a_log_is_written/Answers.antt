use Rattle.nn_ckpt.proofs.LoggingLemmas.{logging_keeps_image}
use Rattle.nn_ckpt.proofs.laws.the_last_image_stays_while_a_log_is_written.Goals as goal

pub returns : goal.returns
returns c = logging_keeps_image
