use Rattle.std.proofs.Common.{true}
use Rattle.nn_base.proofs.DirSetLemmas.{IsUpTo}
use Rattle.nn_base.proofs.dir_set.DirSet.first.Given as goal

abbrev pub invariant-loop-i : goal.invariant-loop-i
invariant-loop-i l = IsUpTo l.set l.i (λ j. true)
