use Rattle.nn_journal.proofs.BringsLemmas.{step_below}
use Rattle.nn_journal.proofs.journal.JournalSet.write_all.Goals as goal

pub returns-clause-below : goal.returns-clause-below
returns-clause-below g c = step_below c.step_all.ensures.stepped c.requires.below
