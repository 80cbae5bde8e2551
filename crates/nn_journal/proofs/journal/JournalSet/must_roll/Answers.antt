use Rattle.std.proofs.Common.{inl}
use Rattle.nn_journal.proofs.journal.JournalSet.must_roll.Goals as goal

pub returns-then-lacks-clause-yes : goal.returns-then-lacks-clause-yes
returns-then-lacks-clause-yes c = λ is. inl (c.lacks.ensures.yes c.if-lacks.true)
