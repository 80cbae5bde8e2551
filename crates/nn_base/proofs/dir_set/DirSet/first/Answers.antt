use Rattle.std.proofs.Common.{true, refl}
use Rattle.nn_base.proofs.DirSetLemmas.{none_yet, one_more}
use Rattle.nn_base.proofs.dir_set.DirSet.first.Goals as goal

pub loop-i-init : goal.loop-i-init
loop-i-init c = none_yet (λ j. true) c.none-set.ensures

pub loop-i-preserved : goal.loop-i-preserved
loop-i-preserved c = one_more (λ j. true) c.loop-i.invariant refl c.with-set.ensures
