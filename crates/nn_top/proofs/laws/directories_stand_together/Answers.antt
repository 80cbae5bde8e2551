use Rattle.nn_top.proofs.LawLemmas.{mark_between, option_between}
use Rattle.nn_top.proofs.laws.directories_stand_together.Goals as goal

pub returns-clause-mark : goal.returns-clause-mark
returns-clause-mark c = mark_between

pub returns-clause-option : goal.returns-clause-option
returns-clause-option c = option_between
