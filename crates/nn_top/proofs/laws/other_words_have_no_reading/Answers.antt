use Rattle.nn_top.proofs.LawLemmas.{other_unread}
use Rattle.nn_top.proofs.laws.other_words_have_no_reading.Goals as goal

pub returns : goal.returns
returns c = other_unread
