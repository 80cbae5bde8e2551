use Rattle.nn_whole.proofs.LastLemmas.{early_answers_none}
use Rattle.nn_whole.proofs.laws.an_early_line_answers_nothing.Goals as goal

pub returns : goal.returns
returns c = early_answers_none
