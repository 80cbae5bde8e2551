use Rattle.nn_steps.proofs.TidiedLemmas.{tidied_is_sure}
use Rattle.nn_steps.proofs.laws.a_tidied_directory_is_certain.Goals as goal

pub returns : goal.returns
returns c = tidied_is_sure
