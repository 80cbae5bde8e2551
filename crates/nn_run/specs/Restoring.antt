-- A dropped directory that is taken back, where nothing is saved: how the live ones come on beside it, and that each moment is kept.
use Rattle.std.specs.Prelude.{◌≡◌, ◌≢◌, ◌⊎◌, ℕ, ◌-◌, ◌<◌, ◌^◌, Bool, true, false, None}
use Rattle.nn_host.specs.Disk.{Disk}
use Rattle.nn_host.specs.Moments.{Dir, State, disk_at, faults_at}
use Rattle.nn_host.specs.Runs.{Throughout, EachDir, Unspoken}
use Rattle.nn_marks.specs.declared.version.Version.{Version}
use Rattle.nn_tree.specs.Namespace.{Namespace}
use Rattle.nn_state.specs.Seat.{serving}
use Rattle.nn_kept.specs.Kept.{Shared, HasState}
use Rattle.nn_kept.specs.Laws.{EachLeft}
use Rattle.nn_script.specs.Lines.{has_no_answer}
use Rattle.nn_run.specs.Running.{Running, Asked, reply_at}
use Rattle.nn_run.specs.Steps.{LeftBehind, BetweenLines, StepKept}
use Rattle.nn_run.specs.Flights.{Flies, Flown, LeadsTo, OnlySays, IsBackIn, CountsRise}

-- ---- the one directory

-- at a moment its disk has P, and all others are as they were
pub record IsAside (i : ℕ) (P : Disk → Type 0) (old : State) (j : ℕ) (dir : Dir) : Type 0 where
  pub own : j ≡ i → P dir.disk
  pub others : j ≢ i → dir ≡ old.now.dirs j

-- whatever floor has left the one disk behind leaves the other behind, and that is kept
abbrev pub StaysBehind : Disk → Disk → Type 0
StaysBehind old d = (shared : Shared) → LeftBehind shared old → LeftBehind shared d

-- no fair stop leaves it formatted
abbrev pub IsUnformatted : Disk → Type 0
IsUnformatted d = EachLeft d (λ c. HasState c × (serving c ≡ None))

-- it isn't formatted, or its chain ends at this id
abbrev pub IsMadeAt : Version → (ℕ → Namespace) → ℕ → Disk → Type 0
IsMadeAt version list id d = IsUnformatted d ⊎ Flies version list id id d

-- it alone was touched, and it stayed behind
abbrev pub Empties : ℕ → State → State → Type 0
Empties i old new = Throughout (Unit {0}) old new (EachDir (IsAside i (StaysBehind (disk_at old i)) old))

-- ---- all of them

-- It was done in four parts. The directory was emptied; the segment in progress was ended in the live ones; the directory was made at their last id; and a segment was begun in those that were live then, and in it too, if it was made. Of the live ones those on which a call failed were dropped.
pub record TakesBack (version : Version) (list : ℕ → Namespace) (i : ℕ) (live live_after : ℕ → Bool) (last after : ℕ) (old new : State) : Type 0 where
  pub empty : State
  pub ended : State
  pub made : State
  pub rest : ℕ → Bool
  pub back : ℕ → Bool
  pub id : ℕ
  pub emptying : Empties i old empty
  pub ending : Flown (Unit {0}) version list live rest last id empty ended
  pub making : Throughout (Unit {0}) ended made (EachDir (IsAside i (IsMadeAt version list id) ended))
  pub with_it : (j : ℕ) → j ≢ i → back j ≡ rest j
  pub is_made : back i ≡ true → Flies version list id id (disk_at made i)
  pub beginning : Flown (Unit {0}) version list back live_after id after made new
  pub counted : (j : ℕ) → live j ≡ true → live_after j ≡ false → faults_at old j < 2 ^ 64 - 1 → faults_at old j < faults_at new j

-- ---- laws

-- A dropped directory was emptied, and no more; then the line is answered: its step is kept, and so is what was kept before it.
abbrev pub EmptyingIsKept : Type 0
EmptyingIsKept = (version : Version) (list : ℕ → Namespace) (count : ℕ) (live : ℕ → Bool) (run : Running) (asked : Asked) (last i : ℕ) (old mid new : State) → live i ≡ false
    → BetweenLines version list count live (λ j. false) run.book last old.now → run.book.saved ≡ None → has_no_answer asked.line ≡ false → (reply_at count run asked).after.book ≡ run.book
    → Empties i old mid → Unspoken (Unit {0}) old mid → CountsRise (Unit {0}) old mid
    → IsBackIn count live asked → OnlySays (Unit {0}) (reply_at count run asked).text mid new
    → StepKept (Unit {0}) count run live (λ j. true) asked old new × BetweenLines version list count live (λ j. false) run.book last new.now

-- It was taken back, or was to be; then the line is answered: its step is kept. And where a segment was begun, what is to hold between two lines holds behind it.
abbrev pub RestoringIsKept : Type 0
RestoringIsKept = (version : Version) (list : ℕ → Namespace) (count : ℕ) (live live_after : ℕ → Bool) (run : Running) (asked : Asked) (last after i : ℕ) (old mid new : State) → live i ≡ false
    → BetweenLines version list count live (λ j. false) run.book last old.now → has_no_answer asked.line ≡ false → (reply_at count run asked).after.book ≡ run.book
    → LeadsTo list run.book run.book last after
    → (back : TakesBack version list i live live_after last after old mid) → Unspoken (Unit {0}) old mid → CountsRise (Unit {0}) old mid
    → IsBackIn count live_after asked → OnlySays (Unit {0}) (reply_at count run asked).text mid new
    → StepKept (Unit {0}) count run live (λ j. true) asked old new × (back.id < after → BetweenLines version list count live_after (λ j. false) run.book after new.now)
