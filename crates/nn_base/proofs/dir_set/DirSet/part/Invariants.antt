use Rattle.std.proofs.Common.{◌&&◌}
use mathlib.Core.Bool.{beq}
use Rattle.nn_base.specs.DirSets.{has}
use Rattle.nn_base.proofs.DirSetLemmas.{IsUpTo}
use Rattle.nn_base.proofs.dir_set.DirSet.part.Given as goal

abbrev pub invariant-loop-i : goal.invariant-loop-i
invariant-loop-i l = IsUpTo l.set l.i (λ j. has l.self j && beq (has l.other j) l.wanted)
