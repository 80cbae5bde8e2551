-- How a run is kept whose commands are answered together: while they are done, while it is said how many they were, and as it is closed.
use Rattle.std.specs.Prelude.{◌≡◌, ◌⊎◌, ◌↔◌, ℕ, ◌-◌, ◌^◌, ◌<◌, ◌≤◌, Bool, true, false, ◌&&◌, List, [], ◌∷◌, ◌++◌, Contains}
use Rattle.nn_base.specs.Paths.{Bytes}
use Rattle.nn_host.specs.Moments.{State, IsLawful, faults_at}
use Rattle.nn_host.specs.Runs.{Throughout, Unspoken}
use Rattle.nn_pick.specs.Opening.{Book, Opening}
use Rattle.nn_kept.specs.Laws.{KeptInto}
use Rattle.nn_script.specs.Lines.{has_no_answer}
use Rattle.nn_run.specs.Running.{Asked, after_asked}
use Rattle.nn_run.specs.Window.{text_of, books}
use Rattle.nn_run.specs.Course.{RunAsked, begun_book, first_of, opening_of, RunKept}
use Rattle.nn_run.specs.Steps.{StepKept, is_of_step}
use Rattle.nn_run.specs.Flights.{OnlySays, CountsRise}
use Rattle.nn_whole.specs.Closed.{closing_lines, IsEarlyLine}
use Rattle.nn_whole.specs.Ended.{book_after}
use Rattle.nn_whole.specs.Served.{Serving}
use Rattle.nn_whole.specs.Stopped.{RunLeaves}
use Rattle.nn_fill.specs.Tally.{tally_of, commands_by, tallied_course}

-- ---- while they are done

-- Only the opening was said, no count has fallen, those that haven't failed are live and have what they had ahead, and each moment was kept.
pub record Tallying (asked : RunAsked) (ctime : ℕ) (opened : Opening) (ahead live holders : ℕ → Bool) (lines : List Asked) (old s : State) : Type 0 where
  pub said : s.now.said ≡ old.now.said ++ text_of (opening_of asked ctime opened)
  pub grown : (i : ℕ) → faults_at old i ≤ faults_at s i
  pub alive : (i : ℕ) → i < old.count → faults_at s i ≡ faults_at old i → faults_at old i < 2 ^ 64 - 1 → live i ≡ true
  pub held : (i : ℕ) → i < old.count → ahead i ≡ true → faults_at s i ≡ faults_at old i → holders i ≡ true
  pub kept : RunKept (Unit {0}) (tallied_course asked old.count ctime opened lines ahead) old s

-- The Books before and after the commands of these lines.
abbrev pub books_of : RunAsked → ℕ → Opening → List Asked → List Book
books_of asked count opened lines = books (begun_book asked opened.book) (commands_by asked count opened lines)

-- At each moment the directories keep some of these Books: those that were live when it began, and on which no call failed since.
abbrev pub KeepBooks : List Book → ℕ → (ℕ → Bool) → (ℕ → Bool) → State → State → Type 0
KeepBooks some count live holders old new = Throughout (Unit {0}) old new (KeptInto (λ _. some) count (λ _. is_of_step live old) (λ _ i d. holders i && is_of_step live old i d))

-- A run that has said its opening and nothing else is so, whatever its lines are.
abbrev pub TallyingFirst : Type 0
TallyingFirst = (asked : RunAsked) (ctime : ℕ) (opened : Opening) (ahead live holders : ℕ → Bool) (lines : List Asked) (old s : State)
    → Serving asked ctime opened ahead live holders [] old s → Tallying asked ctime opened ahead live holders lines old s

-- The step of one of the lines keeps the Books before and after that line.
abbrev pub StepKeepsBooks : Type 0
StepKeepsBooks = (asked : RunAsked) (count : ℕ) (opened : Opening) (live holders : ℕ → Bool) (done later lines : List Asked) (next : Asked) (old new : State) → lines ≡ done ++ next ∷ later → has_no_answer next.line ≡ false
    → StepKept (Unit {0}) count (after_asked count (first_of asked opened) done) live holders next old new → KeepBooks (books_of asked count opened lines) count live holders old new

-- live behind it are those that were and on which no call failed
abbrev pub IsStillLive : ℕ → (ℕ → Bool) → (ℕ → Bool) → State → State → Type 0
IsStillLive count live after old new = (i : ℕ) → i < count → faults_at old i < 2 ^ 64 - 1 → (after i ≡ true) ↔ ((faults_at new i ≡ faults_at old i) × (live i ≡ true))

-- Where nothing is said, no count falls and Books of the run are kept, what was kept of it is kept on.
abbrev pub TallyingNext : Type 0
TallyingNext = (asked : RunAsked) (ctime : ℕ) (opened : Opening) (ahead live live_after holders : ℕ → Bool) (lines : List Asked) (old s new : State) → Tallying asked ctime opened ahead live holders lines old s
    → Unspoken (Unit {0}) s new → CountsRise (Unit {0}) s new → KeepBooks (books_of asked old.count opened lines) old.count live holders s new → IsStillLive old.count live live_after s new
    → Tallying asked ctime opened ahead live_after holders lines old new

-- ---- at their end

-- The last segment is ended with the Book after all of them, and then it is said how many they were.
abbrev pub TallyIsSaid : Type 0
TallyIsSaid = (asked : RunAsked) (ctime : ℕ) (opened : Opening) (ahead live holders : ℕ → Bool) (lines : List Asked) (old s mid new : State) → Tallying asked ctime opened ahead live holders lines old s
    → Unspoken (Unit {0}) s mid → CountsRise (Unit {0}) s mid → KeepBooks (book_after asked old.count opened lines ∷ []) old.count live holders s mid
    → OnlySays (Unit {0}) (tally_of (commands_by asked old.count opened lines)) mid new → RunKept (Unit {0}) (tallied_course asked old.count ctime opened lines ahead) old new

-- a run that has said its opening alone, or that and how many commands there were
abbrev pub HasTold : RunAsked → ℕ → Opening → List Asked → State → State → Type 0
HasTold asked ctime opened lines old s =
    (s.now.said ≡ old.now.said ++ text_of (opening_of asked ctime opened))
    ⊎ (s.now.said ≡ old.now.said ++ (text_of (opening_of asked ctime opened) ++ tally_of (commands_by asked old.count opened lines)))

-- is kept while its last line is said
abbrev pub TallyIsClosed : Type 0
TallyIsClosed = (asked : RunAsked) (ctime : ℕ) (opened : Opening) (ahead : ℕ → Bool) (lines : List Asked) (text : Bytes) (old mid new : State) → HasTold asked ctime opened lines old mid → Contains closing_lines text
    → RunKept (Unit {0}) (tallied_course asked old.count ctime opened lines ahead) old mid → OnlySays (Unit {0}) text mid new → RunKept (Unit {0}) (tallied_course asked old.count ctime opened lines ahead) old new

-- So is one that never started.
abbrev pub EarlyTallyIsKept : Type 0
EarlyTallyIsKept = (asked : RunAsked) (ctime : ℕ) (opened : Opening) (ahead : ℕ → Bool) (lines : List Asked) (text : Bytes) (old mid new : State) → mid.now.said ≡ old.now.said → IsEarlyLine text
    → RunKept (Unit {0}) (tallied_course asked old.count ctime opened lines ahead) old mid → OnlySays (Unit {0}) text mid new → RunKept (Unit {0}) (tallied_course asked old.count ctime opened lines ahead) old new

-- What each moment of it keeps is what a stop leaves of it.
abbrev pub TallyLeaves : Type 0
TallyLeaves = (asked : RunAsked) (ctime : ℕ) (opened : Opening) (lines : List Asked) (ahead : ℕ → Bool) (old new : State) → IsLawful old
    → RunKept (Unit {0}) (tallied_course asked old.count ctime opened lines ahead) old new → RunLeaves (tallied_course asked old.count ctime opened lines ahead) old new
