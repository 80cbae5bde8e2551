use Rattle.nn_whole.proofs.LeavingLemmas.{more_is_said}
use Rattle.nn_whole.proofs.laws.what_was_seen_stays_so.Goals as goal

pub returns : goal.returns
returns c = more_is_said
