use Rattle.nn_run.proofs.BetweenLemmas.{between_is_kept}
use Rattle.nn_run.proofs.laws.between_two_lines_all_are_kept.Goals as goal

pub returns : goal.returns
returns c = between_is_kept
