-- How step after step makes a run: what holds as so many lines are answered, and how a step carries it on.
use Rattle.std.specs.Prelude.{◌≡◌, ◌≢◌, ℕ, ◌-◌, ◌^◌, ◌<◌, ◌≤◌, Bool, true, All, List, [], ◌∷◌, ◌++◌, map}
use Rattle.nn_base.specs.Paths.{Bytes}
use Rattle.nn_host.specs.Moments.{State, faults_at}
use Rattle.nn_host.specs.Runs.{Unspoken}
use Rattle.nn_pick.specs.Opening.{Opening}
use Rattle.nn_run.specs.Running.{Running, Asked, after_asked}
use Rattle.nn_run.specs.Window.{Answered, commands_of, text_of, base_behind, base_since, last_book}
use Rattle.nn_run.specs.Course.{RunAsked, Course, commands, first_of, answers_of, course_of, RunKept}
use Rattle.nn_run.specs.Steps.{OpeningKept, StepKept}

-- ---- a step carries a run on

-- these counts lie between those of the two states
abbrev pub AreBased : State → State → (ℕ → ℕ) → Type 0
AreBased old s base = (i : ℕ) → (faults_at old i ≤ base i) × (base i ≤ faults_at s i)

-- live are those listed on which no call failed since these counts
abbrev pub AreAlive : ℕ → (ℕ → Bool) → State → (ℕ → ℕ) → Type 0
AreAlive count live s base = (i : ℕ) → i < count → base i < 2 ^ 64 - 1 → faults_at s i ≤ base i → live i ≡ true

-- a run that began at old has come to s with these commands, and goes on with this line
pub record GoesOnFrom (course : Course) (run : Running) (live holders : ℕ → Bool) (before later : List Answered) (asked : Asked) (old s : State) : Type 0 where
  pub batch : 1 ≤ course.batch
  pub commands_are : commands course ≡ before ++ (commands_of old.count run (asked ∷ []) ++ later)
  pub texts : All (λ other. other.text ≢ []) later
  pub book : run.book ≡ last_book course.entry before
  pub said : s.now.said ≡ old.now.said ++ text_of before
  pub based : AreBased old s (λ i. base_behind (λ j. faults_at old j) before i)
  pub alive : AreAlive old.count live s (λ i. base_behind (λ j. faults_at old j) before i)
  pub held : (i : ℕ) → i < old.count → course.ahead i ≡ true → faults_at s i ≡ faults_at old i → holders i ≡ true

abbrev pub StepGoesOn : Type 0
StepGoesOn = (course : Course) (run : Running) (live holders : ℕ → Bool) (before later : List Answered) (asked : Asked) (old s new : State)
    → GoesOnFrom course run live holders before later asked old s → RunKept (Unit {0}) course old s → StepKept (Unit {0}) old.count run live holders asked s new → RunKept (Unit {0}) course old new

-- a run of these words has answered these lines, and what was said, who is live and who holds is by that
pub record HasCome (asked : RunAsked) (ctime : ℕ) (opened : Opening) (ahead live holders : ℕ → Bool) (done : List Asked) (old s : State) : Type 0 where
  pub batch : 1 ≤ asked.batch
  pub said : s.now.said ≡ old.now.said ++ answers_of asked old.count ctime opened done
  pub based : AreBased old s (λ i. base_since old done i)
  pub alive : AreAlive old.count live s (λ i. base_since old done i)
  pub held : (i : ℕ) → i < old.count → ahead i ≡ true → faults_at s i ≡ faults_at old i → holders i ≡ true

-- Whatever will be seen at the lines to come, each moment was kept so far.
abbrev pub KeptSoFar : RunAsked → ℕ → Opening → (ℕ → Bool) → List Asked → List Bytes → State → State → Type 0
KeptSoFar asked ctime opened ahead done rest old s = (later : List Asked) → map (λ a. a.line) later ≡ rest → RunKept (Unit {0}) (course_of asked old.count ctime opened (done ++ later) ahead) old s

-- Then it was so too when one line more is answered.
abbrev pub NextIsKept : Type 0
NextIsKept = (asked : RunAsked) (ctime : ℕ) (opened : Opening) (ahead live holders : ℕ → Bool) (done : List Asked) (next : Asked) (rest : List Bytes) (old s new : State)
    → HasCome asked ctime opened ahead live holders done old s → KeptSoFar asked ctime opened ahead done (next.line ∷ rest) old s
    → StepKept (Unit {0}) old.count (after_asked old.count (first_of asked opened) done) live holders next s new → KeptSoFar asked ctime opened ahead (done ++ next ∷ []) rest old new

-- ---- the opening

-- Each moment of an opening that says nothing is one of the run that begins with it.
abbrev pub OpeningIsOfRun : Type 0
OpeningIsOfRun = (course : Course) (a : Answered) (rest : List Answered) (old s : State) → course.opening ≡ a ∷ rest → a.text ≢ [] → 1 ≤ course.batch
    → Unspoken (Unit {0}) old s → OpeningKept (Unit {0}) course old s → RunKept (Unit {0}) course old s
