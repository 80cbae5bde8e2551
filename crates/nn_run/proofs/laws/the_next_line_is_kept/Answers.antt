use Rattle.nn_run.proofs.LoopLemmas.{next_is_kept}
use Rattle.nn_run.proofs.laws.the_next_line_is_kept.Goals as goal

pub returns : goal.returns
returns c = next_is_kept
