use Rattle.std.proofs.Common.{arith}
use Rattle.nn_journal.proofs.AllLemmas.{both_part, rest_part, stepped_all}
use Rattle.nn_journal.proofs.among.holders_first.Goals as goal

pub step_among-requires-clause-below : goal.step_among-requires-clause-below
step_among-requires-clause-below g c = λ j there. c.requires.below j ((both_part c.and-holding.ensures).in_set j there)

pub step_among-requires-2-clause-below : goal.step_among-requires-2-clause-below
step_among-requires-2-clause-below g c = λ j there. omega (arith, c.requires.below j ((rest_part c.and_not-others.ensures).in_set j there), c.step_among.ensures.count)

pub returns-clause-stepped : goal.returns-clause-stepped
returns-clause-stepped g c = stepped_all (both_part c.and-holding.ensures) (rest_part c.and_not-others.ensures) c.step_among.ensures.stepped c.step_among-2.ensures.stepped
