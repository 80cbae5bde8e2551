use Rattle.nn_fill.proofs.TallyLemmas.{tallying_first}
use Rattle.nn_fill.proofs.laws.the_opening_comes_before_the_tally.Goals as goal

pub returns : goal.returns
returns c = tallying_first
