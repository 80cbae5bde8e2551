use Rattle.std.proofs.Common.{◌≡◌, None}
use Rattle.nn_pick.specs.Refused.{first_refused}
use Rattle.nn_choose.specs.Served.{served_at, mismatch_in}
use Rattle.nn_choose.proofs.clashes.mismatch.Given as goal

abbrev pub invariant-loop-i : goal.invariant-loop-i
invariant-loop-i l = first_refused (λ i. mismatch_in l.first i (served_at l.served i)) l.i ≡ None
