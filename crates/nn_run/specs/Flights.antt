-- Records in flight in the live directories: what a step that logs keeps, where nothing is saved.
use Rattle.std.specs.Prelude.{◌≡◌, ◌⊎◌, ℕ, ◌-◌, ◌<◌, ◌≤◌, ◌^◌, Bool, true, false, None, ◌++◌, take}
use Rattle.nn_base.specs.Paths.{Bytes}
use Rattle.nn_host.specs.Disk.{Disk}
use Rattle.nn_host.specs.Moments.{Dir, State, disk_at, faults_at}
use Rattle.nn_host.specs.Runs.{Throughout, EachDir, Unspoken}
use Rattle.nn_marks.specs.declared.version.Version.{Version}
use Rattle.nn_tree.specs.Namespace.{Namespace}
use Rattle.nn_state.specs.declared.state.StorageState.TheVariants.{Normal}
use Rattle.nn_state.specs.Typed.{IsIn}
use Rattle.nn_pick.specs.Refusing.{spent_from}
use Rattle.nn_pick.specs.Opening.{Book}
use Rattle.nn_kept.specs.Ends.{EndsBetween}
use Rattle.nn_script.specs.Lines.{has_no_answer}
use Rattle.nn_run.specs.Running.{Running, Asked, reply_at, back_at, is_back}
use Rattle.nn_run.specs.Steps.{BetweenLines, StepKept}

-- a directory with nothing under way, of which each fair stop leaves a chain that ends from lo to hi
pub record Flies (version : Version) (list : ℕ → Namespace) (lo hi : ℕ) (d : Disk) : Type 0 where
  pub normal : IsIn Normal d
  pub ends : EndsBetween version false None list lo hi d

-- at a moment each live directory is so, and all others are as they were
pub record FliesAt (version : Version) (list : ℕ → Namespace) (live : ℕ → Bool) (lo hi : ℕ) (old : State) (j : ℕ) (dir : Dir) : Type 0 where
  pub flies : live j ≡ true → Flies version list lo hi dir.disk
  pub same : live j ≡ false → dir ≡ old.now.dirs j

-- The live directories came from one last id to another. Those that are still live end there; those on which a call failed were dropped, and end below; and no other was touched.
pub record Flown (told : Type 0) (version : Version) (list : ℕ → Namespace) (live live_after : ℕ → Bool) (last after : ℕ) (old new : State) : Type 0 where
  pub each : Throughout told old new (EachDir (FliesAt version list live last after old))
  pub alive : (j : ℕ) → live_after j ≡ true → live j ≡ true
  pub counted : (j : ℕ) → live j ≡ true → live_after j ≡ false → faults_at old j < 2 ^ 64 - 1 → faults_at old j < faults_at new j
  pub stand : told → (j : ℕ) → live_after j ≡ true → Flies version list after after (disk_at new j)
  pub most : ℕ
  pub fall : told → (j : ℕ) → live j ≡ true → live_after j ≡ false → Flies version list last most (disk_at new j)
  pub below : most < after
  pub onward : last ≤ after

-- nothing is saved, and the list leads from the one Book to the other
pub record LeadsTo (list : ℕ → Namespace) (book after : Book) (last new_last : ℕ) : Type 0 where
  pub unsaved : book.saved ≡ None
  pub unsaved_after : after.saved ≡ None
  pub between : (n : ℕ) → last ≤ n → n ≤ new_last → (list n ≡ book.ns) ⊎ (list n ≡ after.ns)
  pub ends : list new_last ≡ after.ns
  pub room : new_last < spent_from

-- nothing but a front of this text was said, and no directory was touched
abbrev pub OnlySays : Type 0 → Bytes → State → State → Type 0
OnlySays told text old new = Throughout told old new (λ m. (m.dirs ≡ old.now.dirs) × (n : ℕ) × (m.said ≡ old.now.said ++ take n text))

-- a directory that the line took back is one of these
abbrev pub IsBackIn : ℕ → (ℕ → Bool) → Asked → Type 0
IsBackIn count live asked = (i : ℕ) → i < count → is_back (back_at count asked) i ≡ true → live i ≡ true

-- at each moment no count has fallen since
abbrev pub CountsRise : Type 0 → State → State → Type 0
CountsRise told old new = Throughout told old new (λ m. (j : ℕ) → faults_at old j ≤ (m.dirs j).faults)

-- ---- laws

-- a line that changes no Book is answered: its step is kept, and so is what was kept before it
abbrev pub SayingIsKept : Type 0
SayingIsKept = (version : Version) (list : ℕ → Namespace) (count : ℕ) (live : ℕ → Bool) (run : Running) (asked : Asked) (last : ℕ) (old new : State)
    → BetweenLines version list count live (λ i. false) run.book last old.now → run.book.saved ≡ None → has_no_answer asked.line ≡ false → (reply_at count run asked).after.book ≡ run.book
    → IsBackIn count live asked → OnlySays (Unit {0}) (reply_at count run asked).text old new
    → StepKept (Unit {0}) count run live (λ i. true) asked old new × BetweenLines version list count live (λ i. false) run.book last new.now

-- records of a line, or marks of segments alone, are synced in the live directories, and then it is answered
abbrev pub SyncingIsKept : Type 0
SyncingIsKept = (version : Version) (list : ℕ → Namespace) (count : ℕ) (live live_after : ℕ → Bool) (run : Running) (asked : Asked) (last after : ℕ) (old mid new : State)
    → BetweenLines version list count live (λ i. false) run.book last old.now → has_no_answer asked.line ≡ false
    → LeadsTo list run.book (reply_at count run asked).after.book last after
    → Flown (Unit {0}) version list live live_after last after old mid → Unspoken (Unit {0}) old mid → CountsRise (Unit {0}) old mid
    → IsBackIn count live_after asked → OnlySays (Unit {0}) (reply_at count run asked).text mid new
    → StepKept (Unit {0}) count run live (λ i. true) asked old new × BetweenLines version list count live_after (λ i. false) (reply_at count run asked).after.book after new.now
