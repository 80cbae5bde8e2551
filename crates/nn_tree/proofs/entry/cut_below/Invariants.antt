use Rattle.nn_tree.proofs.CutLoop.{CutSoFar}
use Rattle.nn_tree.proofs.entry.cut_below.Given as goal

abbrev pub invariant-loop-i : goal.invariant-loop-i
invariant-loop-i l = CutSoFar l.fn.entries l.entries l.above l.i
