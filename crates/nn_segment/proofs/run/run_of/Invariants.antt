use Rattle.std.proofs.Common.{◌-◌, length}
use Rattle.nn_segment.proofs.ReachLemmas.{Reached}
use Rattle.nn_segment.proofs.run.run_of.Given as goal

abbrev pub invariant-loop-len : goal.invariant-loop-len
invariant-loop-len l = Reached l.records l.fn.first l.last l.end l.next

abbrev pub decreases-loop-len : goal.decreases-loop-len
decreases-loop-len l = length l.records - l.end
