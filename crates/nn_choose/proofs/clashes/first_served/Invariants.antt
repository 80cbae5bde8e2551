use Rattle.std.proofs.Common.{◌≡◌, ℕ, ◌<◌, None}
use Rattle.nn_choose.specs.Served.{served_at}
use Rattle.nn_choose.proofs.clashes.first_served.Given as goal

abbrev pub invariant-loop-i : goal.invariant-loop-i
invariant-loop-i l = (j : ℕ) → j < l.i → served_at l.served j ≡ None
