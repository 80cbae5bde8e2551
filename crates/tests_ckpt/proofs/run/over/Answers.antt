use Rattle.tests_ckpt.proofs.LiveLemmas.{over_first}
use Rattle.tests_ckpt.proofs.run.over.Goals as goal

pub returns-clause-below : goal.returns-clause-below
returns-clause-below c = over_first c.reserve.result _ _ _ _ c.reserve.ensures.sets c.first-live.ensures c.count.ensures.count
