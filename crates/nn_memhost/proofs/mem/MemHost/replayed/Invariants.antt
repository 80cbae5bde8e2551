use Rattle.std.proofs.Common.{◌≡◌, ℕ, length, take}
use Rattle.nn_memhost.specs.Past.{kept_at, run}
use Rattle.nn_memhost.specs.Mem.{start_of}
use Rattle.nn_memhost.proofs.mem.MemHost.replayed.Given as goal

abbrev pub invariant-calls : goal.invariant-calls
invariant-calls l = record {
  count : length l.kept.items ≡ length l.self.dirs.items;
  value : (j : ℕ) → kept_at l.kept.items j ≡ (run (start_of l.self) (take l.logged-index l.self.calls.items)).now.kept j;
}
