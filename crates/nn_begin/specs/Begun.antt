-- Directories at rest over which a journal is begun.
use Rattle.std.specs.Prelude.{◌≡◌, ◌≢◌, ◌⊎◌, ℕ, ◌+◌, ◌<◌, Bool, true, List, [], ◌∷◌, None, Result, Ok, Err, is_some}
use Rattle.nn_base.specs.DirSets.{has}
use Rattle.nn_base.specs.declared.sub.Sub.TheVariants.{Current, Previous}
use Rattle.nn_base.specs.declared.file_name.FileName.{FileName}
use Rattle.nn_base.specs.declared.file_name.FileName.TheVariants.{Image, InProgress}
use Rattle.nn_base.specs.FileText.{IsInRange}
use Rattle.nn_host.specs.Disk.{Disk}
use Rattle.nn_host.specs.Moments.{Dir, State, disk_at, faults_at}
use Rattle.nn_host.specs.Calls.{next_count}
use Rattle.nn_host.specs.Runs.{Throughout, SameCounts}
use Rattle.nn_marks.specs.declared.version.Version.{Version}
use Rattle.nn_state.specs.declared.state.StorageState.TheVariants.{Normal}
use Rattle.nn_state.specs.declared.typed.Settled.{Settled}
use Rattle.nn_state.specs.Seat.{saved}
use Rattle.nn_state.specs.Typed.{IsIn, FitsSettled, dir_in}
use Rattle.nn_state.specs.Bays.{IsAt}
use Rattle.nn_tree.specs.Namespace.{Namespace}
use Rattle.nn_chain.specs.Folder.{folder_at}
use Rattle.nn_chain.specs.Images.{IsIntact}
use Rattle.nn_remake.specs.Publishing.{IsWhole}
use Rattle.nn_remake.specs.Tidying.{is_unnamed}
use Rattle.nn_segment_file.specs.Log.{Beside, IsOfLog}
use Rattle.nn_segment_file.specs.Steps.{IsGoing}
use Rattle.nn_segment_file.specs.Stages.{Stage, Going}
use Rattle.nn_journal.specs.declared.journal.JournalSet.{JournalSet}
use Rattle.nn_journal.specs.Among.{AllAt, AllAlone}
use Rattle.nn_journal.specs.Places.{IsFit, IsSteady, Matches, place_of, start_record}
use Rattle.nn_pick.specs.declared.fault.OpenFault.{OpenFault}
use Rattle.nn_pick.specs.declared.fault.OpenFault.TheVariants.{Refused, Failed, Memory}
use Rattle.nn_pick.specs.Refusing.{spent_from}
use Rattle.nn_kept.specs.Kept.{Shared}
use Rattle.nn_kept.specs.Laws.{EachLeft, KeptInto}
use Rattle.nn_start.specs.Entry.{SettledFitNow}
use Rattle.nn_start.specs.Bringing.{IsAimedAt}
use Rattle.nn_start.specs.Together.{IsAtRest}
use Rattle.nn_run.specs.Window.{is_unfailed}
use Rattle.nn_run.specs.Steps.{BetweenLines}

-- the directory of this state is the one at its place, and one of eight
pub record IsPlaced (k : ℕ) (it : Settled) : Type 0 where
  pub here : (dir_in it).0 ≡ k
  pub few : k < 8

-- ---- before

-- Each directory rests at the floor, the Book there is in the window, and nothing but marks of segments comes after it.
pub record AreAtRest (shared : Shared) (version : Version) (id : ℕ) (ns : Namespace) (s : State) : Type 0 where
  pub aim : IsAimedAt shared version id ns
  pub each : (i : ℕ) → i < s.count → IsAtRest shared version id i s
  pub steady : IsSteady (shared.ns version.ctime) id

-- ---- meanwhile

-- Where something is saved, those that count as leaders have it, and no call on them has failed.
abbrev pub LeadersHold : Shared → Version → State → (ℕ → Dir → Bool) → Type 0
LeadersHold shared version old leaders = (i : ℕ) (d : Dir) → leaders i d ≡ true → (shared.saved version.ctime ≡ None) ⊎ ((is_some (saved (disk_at old i)) ≡ true) × (is_unfailed old i d ≡ true))

-- While ids are left, at each moment every choice of them is sound and opens to the Book, with what is saved kept where a leader is among them.
abbrev pub BeginsKept : Type 0 → Version → ℕ → State → State → Type 0
BeginsKept told version id old new = (shared : Shared) (ns : Namespace) (run leaders : ℕ → Dir → Bool) → (told → AreAtRest shared version id ns old) → (told → id + 64 < spent_from) → (told → LeadersHold shared version old leaders)
    → Throughout told old new (KeptInto (λ _. shared.window) old.count (λ _. run) (λ _. leaders))

-- ---- afterwards

-- All directories are live, a segment that begins behind this id is in progress with one record, and none waits to be written.
pub record IsNewJournal (count last : ℕ) (journal : JournalSet) : Type 0 where
  pub listed : (i : ℕ) → i < count → has journal.live i ≡ true
  pub below : (i : ℕ) → has journal.live i ≡ true → i < count
  pub going : journal.going ≡ true
  pub first : journal.first ≡ last + 1
  pub last_id : journal.last ≡ last + 1
  pub empty : journal.buffer.items ≡ []
  pub fit : IsFit journal

-- those are holders whose state has a saved one
abbrev pub HoldsBy : List Settled → (ℕ → Bool) → Type 0
HoldsBy at holders = (k : ℕ) (it : Settled) → IsAt at k it → (d : Disk) → FitsSettled it d → holders k ≡ d.has Previous

-- A directory in which a run begins behind this id: it is NORMAL, with the image of the id whole and synced, and intact after each fair stop, no later image, no file that never got its name, and one segment in progress, with its mark alone; seen_txid holds its first id.
pub record IsStarted (version : Version) (list : ℕ → Namespace) (id : ℕ) (d : Disk) : Type 0 where
  pub normal : IsIn Normal d
  pub whole : IsWhole version id (list id) d
  pub intact : EachLeft d (λ c. IsIntact (folder_at c Current) version id (list id))
  pub later : (other : ℕ) → id < other → d.file Current (Image other) ≡ None
  pub named : (n : FileName) → is_unnamed n ≡ true → d.file Current n ≡ None
  pub going : IsGoing version list id (start_record (id + 1) ∷ []) d
  pub alone : (first : ℕ) → IsInRange (InProgress first) → first ≢ id + 1 → d.file Current (InProgress first) ≡ None

-- how far each has come then
abbrev pub first_stage : ℕ → Stage
first_stage id = Going id (start_record (id + 1) ∷ [])

-- Each directory is so, as the journal has it in mind; its holders have a saved state; each state still fits its directory; and they stand as is to hold between two lines of a run.
pub record IsBegun (shared : Shared) (version : Version) (id : ℕ) (ns : Namespace) (at : List Settled) (journal : JournalSet) (s : State) : Type 0 where
  pub matches : Matches version (shared.ns version.ctime) (first_stage id) (place_of journal)
  pub stand : AllAt version (shared.ns version.ctime) (first_stage id) journal.live s
  pub alone : AllAlone (first_stage id) journal.live s
  pub each : (i : ℕ) → i < s.count → IsStarted version (shared.ns version.ctime) id (disk_at s i)
  pub holders : (i : ℕ) → i < s.count → has journal.holders i ≡ is_some (saved (disk_at s i))
  pub fits : SettledFitNow at s
  pub between : id + 1 < spent_from → BetweenLines version (shared.ns version.ctime) s.count (has journal.live) (has journal.holders) (record { ns = ns; saved = shared.saved version.ctime }) (id + 1) s.now

-- nothing but the log behind this id was touched
abbrev pub OnlyLogged : ℕ → State → State → Type 0
OnlyLogged id old new = (i : ℕ) → i < old.count → Beside (IsOfLog id) (disk_at old i) (disk_at new i)

-- Which counts rose, by the answer: that of the directory that is told failed, and else none.
abbrev pub IsCountedIn : {T : Type 0} → State → State → Result T OpenFault → Type 0
IsCountedIn old new (Ok v) = SameCounts old new
IsCountedIn old new (Err (Refused refusal)) = SameCounts old new
IsCountedIn old new (Err (Failed i)) = (i.0 < old.count) × (faults_at new i.0 ≡ next_count (faults_at old i.0))
IsCountedIn old new (Err Memory) = SameCounts old new
