use Rattle.nn_journal.proofs.RoundLemmas.{apart_sets, one_set}
use Rattle.nn_journal.proofs.journal.JournalSet.lacks.Goals as goal

pub returns-clause-yes : goal.returns-clause-yes
returns-clause-yes c = apart_sets c.args.self.now.live c.args.before.now c.eq-same.result c.eq-same.ensures

pub returns-clause-no : goal.returns-clause-no
returns-clause-no c = one_set c.args.self.now.live c.args.before.now c.eq-same.result c.eq-same.ensures
