-- What a restoration answers, what each moment of it keeps of all directories, and what it leaves.
use Rattle.std.specs.Prelude.{◌≡◌, ◌≢◌, ◌⊎◌, ℕ, ◌+◌, ◌<◌, ◌≤◌, true, false, Result, Ok, Err, OnOk}
use Rattle.nn_base.specs.Limits.{program_layout}
use Rattle.nn_base.specs.DirSets.{Members, has}
use Rattle.nn_host.specs.Moments.{Moment, State, faults_at}
use Rattle.nn_host.specs.Calls.{next_count}
use Rattle.nn_host.specs.Runs.{Throughout, Untouched, Unspoken, SameCounts}
use Rattle.nn_marks.specs.declared.version.Version.{Version}
use Rattle.nn_tree.specs.Namespace.{Namespace}
use Rattle.nn_segment_file.specs.Log.{Shared}
use Rattle.nn_segment_file.specs.Stages.{Stage}
use Rattle.nn_journal.specs.declared.journal.JournalSet.{JournalSet}
use Rattle.nn_journal.specs.Among.{StaysLive, IsDropped}
use Rattle.nn_pick.specs.Refusing.{spent_from}
use Rattle.nn_run.specs.Restoring.{Empties, TakesBack}
use Rattle.nn_ckpt.specs.declared.fault.RunFault.{RunFault}
use Rattle.nn_ckpt.specs.declared.fault.RunFault.TheVariants.{NoneLeft, Memory}
use Rattle.nn_ckpt.specs.Checkpointed.{AreImaged, StayImaged}
use Rattle.nn_restore.specs.declared.restoring.Restored.{Restored}
use Rattle.nn_restore.specs.declared.restoring.Restored.TheVariants.{TakenBack, Missing, Inconsistent, Failed}
use Rattle.nn_restore.specs.Emptying.{IsMissing, IsInconsistent}

-- ---- what was answered, by the table and by counts

-- Nothing was changed, and no call failed.
pub record IsUnchanged (told : Type 0) (live live_after : Members) (old new : State) : Type 0 where
  pub same_live : live_after ≡ live
  pub counts : SameCounts old new
  pub disks : Untouched told old new
  pub reads : told → (j : ℕ) → new.reads j ≡ old.reads j

-- It is live, and no call on it failed. It was dropped, the table says this of it, and nothing was changed. It was and stays dropped, and a call on it failed. Or the run ends: it was and stays dropped.
abbrev pub IsAnswered : Type 0 → ℕ → Members → Members → State → State → Result Restored RunFault → Type 0
IsAnswered told i live live_after old new (Ok TakenBack) = (has live_after i ≡ true) × (faults_at new i ≡ faults_at old i)
IsAnswered told i live live_after old new (Ok Missing) = (has live i ≡ false) × IsUnchanged told live live_after old new × (told → IsMissing (old.reads i))
IsAnswered told i live live_after old new (Ok Inconsistent) = (has live i ≡ false) × IsUnchanged told live live_after old new × (told → IsInconsistent (old.reads i))
IsAnswered told i live live_after old new (Ok Failed) = (has live i ≡ false) × (has live_after i ≡ false) × (faults_at new i ≡ next_count (faults_at old i))
IsAnswered told i live live_after old new (Err NoneLeft) = (has live i ≡ false) × (has live_after i ≡ false) × ((faults_at new i ≡ faults_at old i) ⊎ (faults_at new i ≡ next_count (faults_at old i)))
IsAnswered told i live live_after old new (Err Memory) = (has live i ≡ false) × (has live_after i ≡ false) × (faults_at new i ≡ faults_at old i)

-- Where the table refuses one that was dropped, that is the answer, but where a call on it failed before it was known.
pub record IsRefused (i : ℕ) (live : Members) (old : State) (result : Result Restored RunFault) : Type 0 where
  pub missing : has live i ≡ false → IsMissing (old.reads i) → (result ≡ Ok Missing) ⊎ (result ≡ Ok Failed)
  pub inconsistent : has live i ≡ false → IsInconsistent (old.reads i) → (result ≡ Ok Inconsistent) ⊎ (result ≡ Ok Failed)

-- the table didn't refuse it
pub record IsRestorable (result : Result Restored RunFault) : Type 0 where
  pub missing : result ≢ Ok Missing
  pub inconsistent : result ≢ Ok Inconsistent

-- At a moment no count has fallen; and of the other directories each that isn't live is as it was, and one in which a call has failed is as it is in the end.
pub record IsLeftBeside (i : ℕ) (live : Members) (old new : State) (m : Moment) : Type 0 where
  pub grown : (j : ℕ) → faults_at old j ≤ (m.dirs j).faults
  pub others : (j : ℕ) → j ≢ i → has live j ≡ false → m.dirs j ≡ old.now.dirs j
  pub failed : (j : ℕ) → j ≢ i → faults_at old j < (m.dirs j).faults → m.dirs j ≡ new.now.dirs j

-- It was answered so, or ended the run. Each other directory is live where it was and no call on it failed; and nothing was said.
pub record IsCountedOf (told : Type 0) (i : ℕ) (live live_after : Members) (old new : State) (result : Result Restored RunFault) : Type 0 where
  pub own : IsAnswered told i live live_after old new result
  pub others : (j : ℕ) → j ≢ i → StaysLive live live_after old new j ⊎ IsDropped live live_after old new j
  pub left : Throughout told old new (IsLeftBeside i live old new)
  pub quiet : Unspoken told old new

-- ---- what each moment keeps, and what it leaves

-- It stayed behind while it was emptied, and no more was done; or it was taken back in parts, or was to be, and a segment was begun behind its image. All that are live stand where the journal has them in mind.
pub record HasRestored (version : Version) (list : Shared) (i : ℕ) (journal after : JournalSet) (old new : State) (result : Result Restored RunFault) : Type 0 where
  pub comes : ((after ≡ journal) × Empties i old new) ⊎ ((back : TakesBack version list i (has journal.live) (has after.live) journal.last after.last old new) × OnOk result (back.id < after.last))
  pub stands : StayImaged version list after new

-- Wherever the live ones stand, at the namespace of the tree, with room for more ids, under a VERSION of this program's layout.
abbrev pub Restores : Type 0 → Version → Namespace → ℕ → JournalSet → JournalSet → State → State → Result Restored RunFault → Type 0
Restores told version ns i journal after old new result = told → (list : Shared) (stage : Stage) → AreImaged version list stage journal old → list journal.last ≡ ns → journal.last + 128 < spent_from → version.layout ≡ program_layout
    → HasRestored version list i journal after old new result
