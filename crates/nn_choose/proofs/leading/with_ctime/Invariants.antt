use Rattle.nn_base.specs.DirSets.{has}
use Rattle.nn_choose.specs.Served.{AreOfCtime}
use Rattle.nn_choose.proofs.leading.with_ctime.Given as goal

abbrev pub invariant-loop-i : goal.invariant-loop-i
invariant-loop-i l = AreOfCtime l.served l.ctime l.i (has l.set)
