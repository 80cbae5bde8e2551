use Rattle.nn_record.proofs.RecordLemmas.{none_begins_another}
use Rattle.nn_record.proofs.GetLemmas.{ok_again, ok_exact, ok_none}
use Rattle.nn_record.proofs.transaction.Record.get.Goals as goal

pub returns-clause-exact : goal.returns-clause-exact
returns-clause-exact c = ok_exact _ _ (record { some = c.first_record.ensures.some; len = c.first_record.ensures.len; none = c.first_record.ensures.none })

pub returns-clause-none : goal.returns-clause-none
returns-clause-none c = ok_none _ _ (record { some = c.first_record.ensures.some; len = c.first_record.ensures.len; none = c.first_record.ensures.none })

pub returns-clause-again : goal.returns-clause-again
returns-clause-again c = ok_again _ _ (record { some = c.first_record.ensures.some; len = c.first_record.ensures.len; none = c.first_record.ensures.none })

pub returns-clause-apart : goal.returns-clause-apart
returns-clause-apart c = none_begins_another
