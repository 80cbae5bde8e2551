use Rattle.std.proofs.Common.{◌≡◌, ℕ, ◌<◌, true}
use Rattle.nn_base.specs.DirSets.{has}
use Rattle.nn_begin.proofs.beginning.dropped.Given as goal

abbrev pub invariant-loop-i : goal.invariant-loop-i
invariant-loop-i l = (i : ℕ) → i < l.i → has l.journal.live i ≡ true
