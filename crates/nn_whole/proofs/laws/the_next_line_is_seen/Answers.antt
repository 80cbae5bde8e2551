use Rattle.nn_whole.proofs.CountedLemmas.{next_is_seen}
use Rattle.nn_whole.proofs.laws.the_next_line_is_seen.Goals as goal

pub returns : goal.returns
returns c = next_is_seen
