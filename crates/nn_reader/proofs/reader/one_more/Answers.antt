use Rattle.std.proofs.Common.{get_or, arith}
use Rattle.nn_reader.proofs.ReaderLemmas.{took_nothing, took_one}
use Rattle.nn_reader.proofs.reader.one_more.Goals as goal

pub returns-then-count-eq0-clause-ok : goal.returns-then-count-eq0-clause-ok
returns-then-count-eq0-clause-ok g c = (
  λ tells. (took_nothing (c.in_ok-count.ensures.ok tells) c.if-count-eq0.true (omega arith)).0,
  λ tells. (took_nothing (c.in_ok-count.ensures.ok tells) c.if-count-eq0.true (omega arith)).1,
)

pub returns-else-count-eq0-clause-ok : goal.returns-else-count-eq0-clause-ok
returns-else-count-eq0-clause-ok g c = (get_or c.take.new.out 0 0, λ tells. took_one (c.in_ok-count.ensures.ok tells) c.if-count-eq0.false (omega (arith, c.in_ok-count.ensures.within)) (omega arith))
