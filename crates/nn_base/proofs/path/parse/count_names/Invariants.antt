use Rattle.std.proofs.Common.{length}
use Rattle.nn_base.proofs.PathCountLemmas.{AreCounted}
use Rattle.nn_base.proofs.path.parse.count_names.Given as goal

abbrev pub invariant-names : goal.invariant-names
invariant-names l = AreCounted l.text l.left l.count

abbrev pub decreases-names : goal.decreases-names
decreases-names l = length l.left
