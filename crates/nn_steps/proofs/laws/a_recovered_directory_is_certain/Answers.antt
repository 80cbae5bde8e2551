use Rattle.nn_steps.proofs.SettledLemmas.{recovered_is_sure}
use Rattle.nn_steps.proofs.laws.a_recovered_directory_is_certain.Goals as goal

pub returns : goal.returns
returns c = recovered_is_sure
