use Rattle.nn_whole.proofs.LastLemmas.{closing_answers_none}
use Rattle.nn_whole.proofs.laws.a_closing_line_answers_nothing.Goals as goal

pub returns : goal.returns
returns c = closing_answers_none
