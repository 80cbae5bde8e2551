use Rattle.nn_steps.proofs.LoggedLemmas.{logging_ends}
use Rattle.nn_steps.proofs.laws.a_directory_written_to_ends.Goals as goal

pub returns : goal.returns
returns c = logging_ends
