use Rattle.std.proofs.Common.{◌≡◌, ◌<◌, ℕ, true}
use Rattle.nn_base.specs.DirSets.{has}
use Rattle.nn_journal.specs.Places.{IsFit}
use Rattle.bench_journal.proofs.put_records.Given as goal

-- a segment is in progress in directories that are there
abbrev pub invariant-records : goal.invariant-records
invariant-records g l = record {
  below : (j : ℕ) → has l.journal.live j ≡ true → j < (g.H.Host.state l.host).count;
  going : l.journal.going ≡ true;
  fit : IsFit l.journal;
}
