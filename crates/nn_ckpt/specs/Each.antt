-- Something that is done in each live directory, and the drop of those in which a call failed.
use Rattle.std.specs.Prelude.{◌≡◌, ◌⊎◌, ℕ, ◌<◌, true, false, if◌then◌else◌}
use Rattle.nn_base.specs.DirSets.{Members, has}
use Rattle.nn_host.specs.Disk.{Disk, Reads}
use Rattle.nn_host.specs.Moments.{Dir, State, disk_at, faults_at}
use Rattle.nn_host.specs.Calls.{next_count}
use Rattle.nn_host.specs.Runs.{Throughout, EachDir, Unspoken}
use Rattle.nn_journal.specs.declared.journal.JournalSet.{JournalSet}
use Rattle.nn_journal.specs.Among.{LeavesAlone}
use Rattle.nn_journal.specs.Places.{place_of}
use Rattle.nn_journal.specs.Rolling.{DropsAhead}

-- at a moment each live directory has P, by how it read and what it held, and all others are as they were
pub record IsDoing (P : Reads → Disk → Disk → Type 0) (live : Members) (old : State) (j : ℕ) (dir : Dir) : Type 0 where
  pub doing : has live j ≡ true → P (old.reads j) (disk_at old j) dir.disk
  pub same : has live j ≡ false → dir ≡ old.now.dirs j

-- So it is at each moment. Those in which a call failed are told; each of them is as that call left it.
pub record DoneEach (told : Type 0) (P : Reads → Disk → Disk → Type 0) (live failed : Members) (old new : State) : Type 0 where
  pub among : (j : ℕ) → has failed j ≡ true → has live j ≡ true
  pub counted : (j : ℕ) → faults_at new j ≡ (if has failed j then next_count (faults_at old j) else faults_at old j)
  pub any_moment : Throughout told old new (EachDir (IsDoing P live old))
  pub left : LeavesAlone told live old new
  pub quiet : Unspoken told old new
  pub count : new.count ≡ old.count

-- These directories were dropped without a call on them, and the rest went on ahead of them; or there were none, and nothing was done.
abbrev pub DropsFailed : Type 0 → Members → JournalSet → JournalSet → State → State → Type 0
DropsFailed told failed journal after old new = (((j : ℕ) → has failed j ≡ false) × (after ≡ journal) × (new ≡ old))
    ⊎ ((journal.last < after.last) × DropsAhead told failed (place_of journal) (place_of after) journal.holders journal.live after.live old new)
