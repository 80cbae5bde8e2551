use Rattle.bench_journal.proofs.BelowLemmas.{below_still}
use Rattle.bench_journal.proofs.put_record.Goals as goal

pub sync-requires-clause-below : goal.sync-requires-clause-below
sync-requires-clause-below g c = below_still c.log.ensures.kept.0 c.requires.below

pub returns-clause-below : goal.returns-clause-below
returns-clause-below g c = below_still c.log.ensures.kept.0 c.requires.below
