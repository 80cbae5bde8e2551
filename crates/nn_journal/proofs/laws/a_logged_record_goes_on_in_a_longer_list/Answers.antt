use Rattle.nn_journal.proofs.LoggingLemmas.{logging_goes_on}
use Rattle.nn_journal.proofs.laws.a_logged_record_goes_on_in_a_longer_list.Goals as goal

pub returns : goal.returns
returns c = logging_goes_on
