use Rattle.nn_journal.proofs.RoundLemmas.{one_is, has_it}
use Rattle.nn_journal.proofs.journal.JournalSet.drop_dir.Goals as goal

pub drop_dirs-requires-clause-live : goal.drop_dirs-requires-clause-live
drop_dirs-requires-clause-live g c = (c.args.i.0, has_it c.args.i.0 (one_is c.args.i.0 c.none.ensures c.with.ensures), c.requires.live)

pub returns-clause-brought : goal.returns-clause-brought
returns-clause-brought g c = (c.with.result, one_is c.args.i.0 c.none.ensures c.with.ensures, c.drop_dirs.ensures.brought)
