-- An empty directory that is made, and taken back if it was.
use Rattle.std.specs.Prelude.{◌≡◌, ◌≢◌, ℕ, ◌+◌, ◌≤◌, true, false, Result, OnOk, OnErr}
use Rattle.nn_base.specs.DirSets.{has, count_of}
use Rattle.nn_host.specs.Moments.{State, disk_at, faults_at}
use Rattle.nn_host.specs.Calls.{next_count}
use Rattle.nn_host.specs.Runs.{OnlyAt}
use Rattle.nn_marks.specs.declared.version.Version.{Version}
use Rattle.nn_tree.specs.Namespace.{Namespace}
use Rattle.nn_journal.specs.declared.journal.JournalSet.{JournalSet}
use Rattle.nn_journal.specs.Places.{place_of}
use Rattle.nn_remake.specs.Made.{FreshOrMade, IsMade}

-- At each moment it isn't formatted, or is made with the image of this id. It is live then just where it was made and no call failed; the journal's other directories and its place are the same.
pub record MakesIn {E : Type 0} (told : Type 0) (version : Version) (ns : Namespace) (i : ℕ) (journal after : JournalSet) (old new : State) (result : Result (Unit {0}) E) : Type 0 where
  pub any_moment : OnlyAt told i old new (FreshOrMade version journal.last ns)
  pub others : (j : ℕ) → j ≢ i → has after.live j ≡ has journal.live j
  pub holders : (j : ℕ) → j ≢ i → has after.holders j ≡ has journal.holders j
  pub no_holder : (has after.live i ≡ true → has after.holders i ≡ false) × (has after.live i ≡ false → has after.holders i ≡ has journal.holders i)
  pub place : place_of after ≡ place_of journal
  pub buffer : after.buffer ≡ journal.buffer
  pub count : count_of after.live ≤ count_of journal.live + 1
  pub made : told → has after.live i ≡ true → IsMade version journal.last ns (disk_at new i)
  pub whole : has after.live i ≡ true → faults_at new i ≡ faults_at old i
  pub failed : has after.live i ≡ false → OnOk result (faults_at new i ≡ next_count (faults_at old i))
  pub memory : OnErr result ((has after.live i ≡ false) × (faults_at new i ≡ faults_at old i))
