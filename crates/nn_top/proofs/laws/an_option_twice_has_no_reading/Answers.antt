use Rattle.nn_top.proofs.LawLemmas.{twice_unread}
use Rattle.nn_top.proofs.laws.an_option_twice_has_no_reading.Goals as goal

pub returns : goal.returns
returns c = twice_unread
