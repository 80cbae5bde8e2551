use Rattle.nn_whole.proofs.StoppedLemmas.{entry_is_left}
use Rattle.nn_whole.proofs.laws.a_stop_at_entry_is_told.Goals as goal

pub returns : goal.returns
returns c = entry_is_left
