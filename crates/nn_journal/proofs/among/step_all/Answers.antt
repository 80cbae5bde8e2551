use Rattle.nn_journal.proofs.AllLemmas.{stepped_others}
use Rattle.nn_journal.proofs.among.step_all.Goals as goal

pub returns-then-is_empty-clause-stepped : goal.returns-then-is_empty-clause-stepped
returns-then-is_empty-clause-stepped g c = stepped_others (c.is_empty.ensures.yes c.if-is_empty.true) c.step_among.ensures.stepped
