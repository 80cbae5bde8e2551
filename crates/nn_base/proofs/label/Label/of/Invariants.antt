use Rattle.std.proofs.Common.{◌≡◌, ◌-◌, ◌++◌, take, replicate}
use Rattle.nn_base.specs.Limits.{most_label}
use Rattle.nn_base.proofs.label.Label.of.Given as goal

abbrev pub invariant-loop-i : goal.invariant-loop-i
invariant-loop-i l = l.buf ≡ take l.i l.bytes ++ replicate (most_label - l.i) 0
