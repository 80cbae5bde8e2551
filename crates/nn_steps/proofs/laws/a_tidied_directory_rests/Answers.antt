use Rattle.nn_steps.proofs.TidiedLemmas.{tidied_rests}
use Rattle.nn_steps.proofs.laws.a_tidied_directory_rests.Goals as goal

pub returns : goal.returns
returns c = tidied_rests
