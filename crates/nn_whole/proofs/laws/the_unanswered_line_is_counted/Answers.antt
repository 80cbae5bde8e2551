use Rattle.nn_whole.proofs.CountedLemmas.{out_is_counted}
use Rattle.nn_whole.proofs.laws.the_unanswered_line_is_counted.Goals as goal

pub returns : goal.returns
returns c = out_is_counted
