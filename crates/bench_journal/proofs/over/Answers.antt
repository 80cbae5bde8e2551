use Rattle.bench_journal.proofs.BelowLemmas.{all_below}
use Rattle.bench_journal.proofs.over.Goals as goal

pub returns-clause-below : goal.returns-clause-below
returns-clause-below c = all_below c.reserve.result _ _ c.args.count c.reserve.ensures.sets c.first-live.ensures
