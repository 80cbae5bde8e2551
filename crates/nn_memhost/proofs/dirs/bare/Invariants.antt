use Rattle.std.proofs.Common.{◌≡◌, ℕ, length}
use Rattle.nn_memhost.specs.Held.{bare}
use Rattle.nn_memhost.specs.Past.{kept_at}
use Rattle.nn_memhost.proofs.dirs.bare.Given as goal

abbrev pub invariant-dirs : goal.invariant-dirs
invariant-dirs l = record {
  count : length l.dirs.items ≡ l.counter;
  bare : (j : ℕ) → kept_at l.dirs.items j ≡ bare;
}
