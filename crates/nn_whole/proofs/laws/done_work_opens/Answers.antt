use Rattle.nn_whole.proofs.EndedLemmas.{ended_opens}
use Rattle.nn_whole.proofs.laws.done_work_opens.Goals as goal

pub returns : goal.returns
returns c = ended_opens
