use Rattle.nn_steps.proofs.MadeLemmas.{fresh_is_kept}
use Rattle.nn_steps.proofs.laws.a_directory_not_formatted_is_kept.Goals as goal

pub returns : goal.returns
returns c = fresh_is_kept
