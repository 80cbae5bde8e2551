use Rattle.nn_marks.proofs.FaultlessLemmas.{faultless}
use Rattle.nn_marks.proofs.laws.faultless_says.Goals as goal

pub returns : goal.returns
returns c = faultless
