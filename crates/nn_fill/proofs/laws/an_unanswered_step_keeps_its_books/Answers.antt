use Rattle.nn_fill.proofs.TallyLemmas.{step_keeps_books}
use Rattle.nn_fill.proofs.laws.an_unanswered_step_keeps_its_books.Goals as goal

pub returns : goal.returns
returns c = step_keeps_books
