use Rattle.std.proofs.Common.{◌≡◌, ℕ, ◌<◌, ◌≤◌, length}
use Rattle.nn_memhost.specs.Held.{settled}
use Rattle.nn_memhost.specs.Past.{kept_at}
use Rattle.nn_memhost.proofs.dirs.settle_all.Given as goal

abbrev pub invariant-dirs : goal.invariant-dirs
invariant-dirs l = record {
  len : length l.dirs.items ≡ length l.initial.dirs.items;
  done : (j : ℕ) → j < l.k → kept_at l.dirs.items j ≡ settled (kept_at l.initial.dirs.items j);
  rest : (j : ℕ) → l.k ≤ j → kept_at l.dirs.items j ≡ kept_at l.initial.dirs.items j;
}
