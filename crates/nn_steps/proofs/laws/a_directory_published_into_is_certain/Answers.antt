use Rattle.nn_steps.proofs.SettledLemmas.{published_is_sure}
use Rattle.nn_steps.proofs.laws.a_directory_published_into_is_certain.Goals as goal

pub returns : goal.returns
returns c = published_is_sure
