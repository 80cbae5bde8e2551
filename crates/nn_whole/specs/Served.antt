-- What holds as so many lines of a run are answered: what was said, which directories are live, what was seen, and what was kept.
use Rattle.std.specs.Prelude.{◌≡◌, ◌⊎◌, ℕ, ◌-◌, ◌^◌, ◌<◌, ◌≤◌, Bool, true, false, ◌||◌, List, [], ◌∷◌, ◌++◌, length, take, is_none}
use Rattle.nn_base.specs.Paths.{Bytes}
use Rattle.nn_host.specs.Moments.{Moment, State, faults_at}
use Rattle.nn_host.specs.Runs.{Throughout, Unspoken}
use Rattle.nn_marks.specs.declared.version.Version.{Version}
use Rattle.nn_tree.specs.Namespace.{Namespace}
use Rattle.nn_pick.specs.Opening.{Opening}
use Rattle.nn_kept.specs.Laws.{KeptInto}
use Rattle.nn_script.specs.Lines.{has_no_answer}
use Rattle.nn_run.specs.Running.{Running, Asked, SeeLive, reply_at, after_asked, back_at, is_back}
use Rattle.nn_run.specs.Window.{text_of, said_since, base_since, is_of_run, is_held}
use Rattle.nn_run.specs.Course.{RunAsked, begun_book, first_of, opening_of, answers_of, course_of, IsAsAtEntry, RunKept}
use Rattle.nn_run.specs.Steps.{BetweenLines, StepKept, HasAnswered}
use Rattle.nn_run.specs.Flights.{OnlySays}
use Rattle.nn_run.specs.Loop.{AreBased, AreAlive}

-- ---- what was seen

-- At this moment, if a part of the answer to a line was said, the counts are those that were seen at it.
abbrev pub IsSeenAt : (List Asked → Bytes) → List Asked → State → Moment → Type 0
IsSeenAt answers reached old m = (before : List Asked) (asked : Asked) (later : List Asked) → reached ≡ before ++ asked ∷ later
    → length (answers before) < length (said_since old m) → length (said_since old m) < length (answers (before ++ asked ∷ [])) → (i : ℕ) → (m.dirs i).faults ≡ asked.sight.faults i

-- Lines were seen truly: live are just those directories that hadn't failed since the run began or since they were last taken back, by the counts at which the answer was said.
pub record SeenTruly (answers : List Asked → Bytes) (reached : List Asked) (old new : State) : Type 0 where
  pub live : SeeLive old.count (λ i. faults_at old i) reached
  pub at : Throughout (Unit {0}) old new (IsSeenAt answers reached old)

-- ---- what so many answered lines have come to

-- what was said, whatever the directories held
pub record HasSaid (asked : RunAsked) (ctime : ℕ) (opened : Opening) (live : ℕ → Bool) (done : List Asked) (old s : State) : Type 0 where
  pub said : s.now.said ≡ old.now.said ++ answers_of asked old.count ctime opened done
  pub fronts : Throughout (Unit {0}) old s (λ m. length (said_since old m) ≤ length (answers_of asked old.count ctime opened done))
  pub based : AreBased old s (λ i. base_since old done i)
  pub counted : (i : ℕ) → i < old.count → base_since old done i < 2 ^ 64 - 1 → live i ≡ true → faults_at s i ≡ base_since old done i
  pub alive : AreAlive old.count live s (λ i. base_since old done i)
  pub seen : SeenTruly (answers_of asked old.count ctime opened) done old s

-- who is live behind a line was so before it, and no call on it failed; or the line took it back
abbrev pub AreNarrowed : ℕ → (ℕ → Bool) → (ℕ → Bool) → Asked → State → State → Type 0
AreNarrowed count live after asked old new = (i : ℕ) → i < count → after i ≡ true → ((live i ≡ true) × (faults_at new i ≡ faults_at old i)) ⊎ (is_back (back_at count asked) i ≡ true)

-- at each moment a front of this text was said, and only once the directories were as at the end
abbrev pub SaysLast : Bytes → State → State → Type 0
SaysLast text old new = Throughout (Unit {0}) old new (λ m. ((n : ℕ) × (m.said ≡ old.now.said ++ take n text)) × ((m.said ≡ old.now.said) ⊎ (m.dirs ≡ new.now.dirs)))

-- a run that has said its opening behind a start in which no count rose
abbrev pub FirstIsSaid : Type 0
FirstIsSaid = (asked : RunAsked) (ctime : ℕ) (opened : Opening) (live : ℕ → Bool) (old s new : State) → ((i : ℕ) → i < old.count → live i ≡ true) → ((i : ℕ) → faults_at s i ≡ faults_at old i)
    → Unspoken (Unit {0}) old s → OnlySays (Unit {0}) (text_of (opening_of asked ctime opened)) s new → new.now.said ≡ s.now.said ++ text_of (opening_of asked ctime opened)
    → HasSaid asked ctime opened live [] old new

-- and one line more was answered, in which no count fell and no directory became live but one that it took back
abbrev pub NextIsSaid : Type 0
NextIsSaid = (asked : RunAsked) (ctime : ℕ) (opened : Opening) (live live_after : ℕ → Bool) (done : List Asked) (next : Asked) (after : Running) (old s new : State)
    → HasSaid asked ctime opened live done old s → HasAnswered (Unit {0}) old.count (after_asked old.count (first_of asked opened) done) after live live_after next s new
    → SaysLast (reply_at old.count (after_asked old.count (first_of asked opened) done) next).text s new
    → ((i : ℕ) → faults_at s i ≤ faults_at new i) → AreNarrowed old.count live live_after next s new
    → HasSaid asked ctime opened live_after (done ++ next ∷ []) old new × (after ≡ after_asked old.count (first_of asked opened) (done ++ next ∷ []))

-- a line without an answer changes nothing
abbrev pub SilentIsSaid : Type 0
SilentIsSaid = (asked : RunAsked) (ctime : ℕ) (opened : Opening) (live : ℕ → Bool) (done : List Asked) (next : Asked) (old s : State) → has_no_answer next.line ≡ true
    → ((i : ℕ) → next.sight.live i ≡ live i) → ((i : ℕ) → next.sight.faults i ≡ faults_at s i) → HasSaid asked ctime opened live done old s
    → HasSaid asked ctime opened live (done ++ next ∷ []) old s × (after_asked old.count (first_of asked opened) (done ++ next ∷ []) ≡ after_asked old.count (first_of asked opened) done)

-- ---- what the loop carries, of sound directories

-- So many lines were answered, and each moment was kept so far, whatever lines come behind them and whatever will be seen at those; and those that had a saved state ahead and haven't failed are holders.
pub record Serving (asked : RunAsked) (ctime : ℕ) (opened : Opening) (ahead live holders : ℕ → Bool) (done : List Asked) (old s : State) : Type 0 where
  pub said : HasSaid asked ctime opened live done old s
  pub held : (i : ℕ) → i < old.count → ahead i ≡ true → faults_at s i ≡ faults_at old i → holders i ≡ true
  pub kept : (later : List Asked) → RunKept (Unit {0}) (course_of asked old.count ctime opened (done ++ later) ahead) old s

-- At first a start has said nothing and kept the Book at entry; all directories are live at the Book begun; and then it was said that the run has started.
abbrev pub ServingFirst : Type 0
ServingFirst = (asked : RunAsked) (ctime : ℕ) (opened : Opening) (ahead live has holders : ℕ → Bool) (version : Version) (list : ℕ → Namespace) (last : ℕ) (old s new : State) → 1 ≤ asked.batch
    → ((i : ℕ) → i < old.count → live i ≡ true) → ((i : ℕ) → faults_at s i ≡ faults_at old i) → Unspoken (Unit {0}) old s
    → Throughout (Unit {0}) old s (λ m. IsAsAtEntry old m ⊎ KeptInto (λ _. opened.book ∷ []) old.count (λ _. is_of_run opened.chosen false (λ i. faults_at old i)) (λ _. is_held ahead opened.chosen false old) m)
    → BetweenLines version list old.count live has (begun_book asked opened.book) last s.now → ((i : ℕ) → i < old.count → ahead i ≡ true → ((is_none (begun_book asked opened.book).saved || has i) ≡ true) × (holders i ≡ true))
    → OnlySays (Unit {0}) (text_of (opening_of asked ctime opened)) s new → new.now.said ≡ s.now.said ++ text_of (opening_of asked ctime opened)
    → Serving asked ctime opened ahead live holders [] old new × BetweenLines version list old.count live has (begun_book asked opened.book) last new.now

-- one line more was answered
abbrev pub ServingNext : Type 0
ServingNext = (asked : RunAsked) (ctime : ℕ) (opened : Opening) (ahead live live_after holders : ℕ → Bool) (done : List Asked) (next : Asked) (after : Running) (old s new : State) → 1 ≤ asked.batch
    → Serving asked ctime opened ahead live holders done old s → StepKept (Unit {0}) old.count (after_asked old.count (first_of asked opened) done) live holders next s new
    → HasAnswered (Unit {0}) old.count (after_asked old.count (first_of asked opened) done) after live live_after next s new
    → SaysLast (reply_at old.count (after_asked old.count (first_of asked opened) done) next).text s new
    → ((i : ℕ) → faults_at s i ≤ faults_at new i) → AreNarrowed old.count live live_after next s new
    → Serving asked ctime opened ahead live_after holders (done ++ next ∷ []) old new × (after ≡ after_asked old.count (first_of asked opened) (done ++ next ∷ []))

-- a line without an answer
abbrev pub ServingSilent : Type 0
ServingSilent = (asked : RunAsked) (ctime : ℕ) (opened : Opening) (ahead live holders : ℕ → Bool) (done : List Asked) (next : Asked) (old s : State) → has_no_answer next.line ≡ true
    → ((i : ℕ) → next.sight.live i ≡ live i) → ((i : ℕ) → next.sight.faults i ≡ faults_at s i) → Serving asked ctime opened ahead live holders done old s
    → Serving asked ctime opened ahead live holders (done ++ next ∷ []) old s × (after_asked old.count (first_of asked opened) (done ++ next ∷ []) ≡ after_asked old.count (first_of asked opened) done)

-- a line that was not answered: each moment of its step is kept too
abbrev pub ServingOut : Type 0
ServingOut = (asked : RunAsked) (ctime : ℕ) (opened : Opening) (ahead live holders : ℕ → Bool) (done : List Asked) (next : Asked) (later : List Asked) (old s new : State) → 1 ≤ asked.batch
    → Serving asked ctime opened ahead live holders done old s → StepKept (Unit {0}) old.count (after_asked old.count (first_of asked opened) done) live holders next s new
    → RunKept (Unit {0}) (course_of asked old.count ctime opened (done ++ next ∷ later) ahead) old new
