use Rattle.nn_journal.proofs.LoggingLemmas.{longer_list_keeps}
use Rattle.nn_journal.proofs.laws.a_longer_list_keeps_what_directories_have.Goals as goal

pub returns : goal.returns
returns c = longer_list_keeps
