-- When a journal can go on.
use Rattle.std.specs.Prelude.{◌≡◌, ℕ, ◌<◌, true, []}
use Rattle.nn_base.specs.DirSets.{has}
use Rattle.nn_host.specs.Moments.{State}
use Rattle.nn_journal.specs.declared.journal.JournalSet.{JournalSet}
use Rattle.nn_journal.specs.Places.{IsFit}

-- It has a segment in progress and nothing that isn't synced, and its live directories are among those of the host.
pub record IsReady (journal : JournalSet) (count : ℕ) (s : State) : Type 0 where
  pub listed : s.count ≡ count
  pub below : (j : ℕ) → has journal.live j ≡ true → j < count
  pub going : journal.going ≡ true
  pub empty : journal.buffer.items ≡ []
  pub fit : IsFit journal
