use Rattle.nn_whole.proofs.CountedLemmas.{first_is_seen}
use Rattle.nn_whole.proofs.laws.at_first_all_are_seen.Goals as goal

pub returns : goal.returns
returns c = first_is_seen
