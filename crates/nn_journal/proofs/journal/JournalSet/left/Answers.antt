use Rattle.nn_journal.proofs.journal.JournalSet.left.Goals as goal

pub returns-then-is_empty-clause-left : goal.returns-then-is_empty-clause-left
returns-then-is_empty-clause-left c = c.is_empty.ensures.yes c.if-is_empty.true
