use Rattle.std.proofs.Common.{◌≡◌, ◌++◌, ◌≤◌, drop, length}
use Rattle.nn_base.specs.Decimal.{last_digits}
use Rattle.nn_base.proofs.decimal.id_digits.Given as goal

abbrev pub invariant-loop-place : goal.invariant-loop-place
invariant-loop-place l = record {
  within : l.place ≤ 19;
  room : length l.digits ≡ 19;
  written : last_digits l.place l.rest ++ drop l.place l.digits ≡ last_digits 19 l.number;
}

abbrev pub decreases-loop-place : goal.decreases-loop-place
decreases-loop-place l = l.place
