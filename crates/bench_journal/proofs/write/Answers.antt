use Rattle.std.proofs.Common.{arith}
use Rattle.bench_journal.proofs.write.Goals as goal

pub segment-written-requires-clause-below : goal.segment-written-requires-clause-below
segment-written-requires-clause-below c = λ j is. omega (arith, c.in_ok-journal.ensures.below j is, c.count.ensures.count)
