-- An opening, one event of a run, and what holds between two of them.
use Rattle.std.specs.Prelude.{◌≡◌, ◌⊎◌, ◌↔◌, ℕ, ◌-◌, ◌^◌, ◌<◌, ◌≤◌, ◌==◌, Bool, true, false, ◌&&◌, ◌||◌, Option, Some, None, [], ◌∷◌, ◌++◌, take, is_none}
use Rattle.nn_host.specs.Disk.{Disk}
use Rattle.nn_host.specs.Moments.{Dir, Moment, State, faults_at}
use Rattle.nn_host.specs.Calls.{next_count}
use Rattle.nn_host.specs.Runs.{Throughout}
use Rattle.nn_marks.specs.declared.version.Version.{Version}
use Rattle.nn_tree.specs.Namespace.{Namespace}
use Rattle.nn_state.specs.declared.state.StorageState.TheVariants.{Normal}
use Rattle.nn_state.specs.Typed.{IsIn}
use Rattle.nn_pick.specs.Refusing.{spent_from}
use Rattle.nn_pick.specs.Opening.{Book}
use Rattle.nn_kept.specs.Kept.{Shared, IsOurs}
use Rattle.nn_kept.specs.Laws.{EachLeft, IsOutranked, IsKeptDisk, AllKept, KeptInto}
use Rattle.nn_kept.specs.Ends.{EndsBetween}
use Rattle.nn_script.specs.Reading.{reading_of}
use Rattle.nn_run.specs.Running.{Running, Asked, Back, TakenBack, reply_at, restored_dir, back_at, is_back}
use Rattle.nn_run.specs.Window.{begins_with, commands_of, said_since, window, window_at, is_unfailed, is_unfailed_since, is_of_run, is_held}
use Rattle.nn_run.specs.Course.{Course, IsAsAtEntry}

-- ---- an opening

-- At each moment of it they are as at entry, or kept so that each choice with a chosen one opens to the Book, or to that behind the upgrade.
abbrev pub OpeningKept : Type 0 → Course → State → State → Type 0
OpeningKept told course old new = Throughout told old new (λ m. IsAsAtEntry old m
    ⊎ KeptInto (λ _. window 1 course.entry course.opening []) old.count (λ _. is_of_run course.chosen false (λ i. faults_at old i)) (λ _. is_held course.ahead course.chosen false old) m)

-- ---- between two events

-- a live directory: nothing is under way in it, and each fair stop leaves it at this id, with the namespace that the list has there
pub record Lives (version : Version) (has : Bool) (book : Book) (list : ℕ → Namespace) (last : ℕ) (d : Disk) : Type 0 where
  pub normal : IsIn Normal d
  pub ends : EndsBetween version has book.saved list last last d

-- another directory: it is kept, and the floor has left it behind
pub record LeftBehind (shared : Shared) (d : Disk) : Type 0 where
  pub kept : IsKeptDisk shared false false d
  pub behind : EachLeft d (IsOutranked shared)

-- The window is the one Book, and floor and lead are the rank of the live directories, which all live at its last id. The others are left behind.
pub record BetweenLines (version : Version) (list : ℕ → Namespace) (count : ℕ) (live holders : ℕ → Bool) (book : Book) (last : ℕ) (m : Moment) : Type 0 where
  pub shared : Shared
  pub window : shared.window ≡ book ∷ []
  pub floor : shared.floor ≡ record { ctime = version.ctime; last = last }
  pub lead : shared.lead ≡ record { ctime = version.ctime; last = last }
  pub ours : IsOurs shared version
  pub ns : shared.ns version.ctime ≡ list
  pub saved : shared.saved version.ctime ≡ book.saved
  pub room : last < spent_from
  pub stands : list last ≡ book.ns
  pub lives : (i : ℕ) → i < count → live i ≡ true → Lives version (holders i) book list last (m.dirs i).disk
  pub others : (i : ℕ) → i < count → live i ≡ false → LeftBehind shared (m.dirs i).disk

-- Then each directory is kept, the live ones are of the run, and those of them are holders that have a saved state, or all where nothing is saved.
abbrev pub BetweenIsKept : Type 0
BetweenIsKept = (version : Version) (list : ℕ → Namespace) (count : ℕ) (live holders : ℕ → Bool) (book : Book) (last : ℕ) (m : Moment) → (between : BetweenLines version list count live holders book last m)
    → AllKept between.shared count (λ i d. live i) (λ i d. (is_none book.saved || holders i) && live i) m

-- ---- one event

-- the directories of a step: those live at its entry, on which no call failed in it
abbrev pub is_of_step : (ℕ → Bool) → State → ℕ → Dir → Bool
is_of_step live old i d = live i && is_unfailed old i d

-- the directory that a line took back, on which no call failed since
abbrev pub is_of_back : Option Back → ℕ → Dir → Bool
is_of_back None i d = false
is_of_back (Some back) i d = (i == back.dir) && is_unfailed_since back.faults d

-- those of the step, and once the whole answer is said the one that the line took back
abbrev pub is_of_line : (ℕ → Bool) → ℕ → Running → Asked → State → Moment → ℕ → Dir → Bool
is_of_line live count run asked old m i d = is_of_step live old i d || (begins_with (reply_at count run asked).text (said_since old m) && is_of_back (back_at count asked) i d)

-- At a moment of it a front of the answer was said and no count has fallen, and every choice with one of them opens to the Book before or after the line, and to that after it once the answer is said.
pub record IsStepMoment (count : ℕ) (run : Running) (live holders : ℕ → Bool) (asked : Asked) (old : State) (m : Moment) : Type 0 where
  pub front : (n : ℕ) × (m.said ≡ old.now.said ++ take n (reply_at count run asked).text)
  pub counted : (i : ℕ) → faults_at old i ≤ (m.dirs i).faults
  pub kept : KeptInto (window_at 1 run.book (commands_of count run (asked ∷ [])) old) count (is_of_line live count run asked old) (λ _ i d. holders i && is_of_step live old i d) m

abbrev pub StepKept : Type 0 → ℕ → Running → (ℕ → Bool) → (ℕ → Bool) → Asked → State → State → Type 0
StepKept told count run live holders asked old new = Throughout told old new (IsStepMoment count run live holders asked old)

-- who is live behind it: those that were and on which no call failed, and the one that it took back
abbrev pub IsLiveAfter : ℕ → (ℕ → Bool) → (ℕ → Bool) → Asked → State → State → Type 0
IsLiveAfter count live after asked old new = (i : ℕ) → i < count → faults_at old i < 2 ^ 64 - 1
    → (after i ≡ true) ↔ (((faults_at new i ≡ faults_at old i) × (live i ≡ true)) ⊎ (is_back (back_at count asked) i ≡ true))

-- a `restore` of a listed directory took it back just where it is live behind the line
abbrev pub SeesRestored : ℕ → (ℕ → Bool) → Asked → Type 0
SeesRestored count after asked = (i : ℕ) → i < count → restored_dir (reading_of asked.line) ≡ Some i → (asked.sight.restored ≡ TakenBack) ↔ (after i ≡ true)

-- a line was answered: what it said, who is live, and what the run has come to
pub record HasAnswered (told : Type 0) (count : ℕ) (run after : Running) (live live_after : ℕ → Bool) (asked : Asked) (old new : State) : Type 0 where
  pub said : told → new.now.said ≡ old.now.said ++ (reply_at count run asked).text
  pub goes_on : after ≡ (reply_at count run asked).after
  pub counted : IsLiveAfter count live live_after asked old new
  pub sees_live : (i : ℕ) → asked.sight.live i ≡ live_after i
  pub sees_faults : (i : ℕ) → asked.sight.faults i ≡ faults_at new i
  pub sees_restored : SeesRestored count live_after asked

-- ---- who is live behind a step, by counts

-- in a step a directory stays as it was
abbrev pub Stays : (ℕ → Bool) → (ℕ → Bool) → State → State → ℕ → Type 0
Stays live live_after old new i = (live_after i ≡ live i) × (faults_at new i ≡ faults_at old i)

-- or it was live, a call on it failed, and it was dropped
abbrev pub Drops : (ℕ → Bool) → (ℕ → Bool) → State → State → ℕ → Type 0
Drops live live_after old new i = (live i ≡ true) × (live_after i ≡ false) × (faults_at new i ≡ next_count (faults_at old i))

-- or it was dropped and becomes live, and no call on it failed
abbrev pub Joins : (ℕ → Bool) → (ℕ → Bool) → State → State → ℕ → Type 0
Joins live live_after old new i = (live i ≡ false) × (live_after i ≡ true) × (faults_at new i ≡ faults_at old i)

-- or a call on it failed, and it stays dropped
abbrev pub Fails : (ℕ → Bool) → (ℕ → Bool) → State → State → ℕ → Type 0
Fails live live_after old new i = (live i ≡ false) × (live_after i ≡ false) × (faults_at new i ≡ next_count (faults_at old i))

-- In a step each directory stays or drops; the one that was to be taken back, if any, can also join or fail.
abbrev pub StepCounts : Option ℕ → (ℕ → Bool) → (ℕ → Bool) → State → State → Type 0
StepCounts dir live live_after old new = (i : ℕ) → Stays live live_after old new i ⊎ (Drops live live_after old new i ⊎ ((dir ≡ Some i) × (Joins live live_after old new i ⊎ Fails live live_after old new i)))
