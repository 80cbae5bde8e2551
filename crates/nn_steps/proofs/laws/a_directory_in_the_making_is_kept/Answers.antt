use Rattle.nn_steps.proofs.MadeLemmas.{making_keeps}
use Rattle.nn_steps.proofs.laws.a_directory_in_the_making_is_kept.Goals as goal

pub returns : goal.returns
returns c = making_keeps
