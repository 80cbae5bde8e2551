-- Which directories are live, and what was seen of them at the lines that were answered, by counts alone: of every host.
use Rattle.std.specs.Prelude.{◌≡◌, ◌⊎◌, ℕ, ◌+◌, ◌-◌, ◌^◌, ◌<◌, ◌≤◌, Bool, true, false, All, List, [], ◌∷◌, ◌++◌, length, Option, Some, None, if◌then◌else◌}
use Rattle.std.specs.List.{filter}
use Rattle.nn_base.specs.Paths.{Bytes}
use Rattle.nn_host.specs.Moments.{State, faults_at}
use Rattle.nn_host.specs.Runs.{SameCounts}
use Rattle.nn_script.specs.Lines.{lines_of, ended_lines}
use Rattle.nn_script.specs.Reading.{reading_of}
use Rattle.nn_run.specs.Running.{Asked, SeeLive, restored_dir, is_dir}
use Rattle.nn_run.specs.Window.{base_since}
use Rattle.nn_run.specs.Steps.{StepCounts, SeesRestored}
use Rattle.nn_run.specs.Loop.{AreBased}

-- a count is past this one, or at the last value that counts have
abbrev pub IsPast : ℕ → ℕ → Type 0
IsPast base count = (base < count) ⊎ (2 ^ 64 - 1 ≤ count)

-- how many of these lines were to take this directory back
abbrev pub tries_of : List Asked → ℕ → ℕ
tries_of lines i = length (filter (λ asked. is_dir (restored_dir (reading_of asked.line)) i) lines)

-- A dropped directory isn't touched again, unless it is to be taken back: so it failed at most once, and once more for each line that was to do that; and if it is live, once less.
abbrev pub AreFew : (ℕ → Bool) → List Asked → State → State → Type 0
AreFew live lines old s = (i : ℕ) → i < old.count → faults_at s i + (if live i then 1 else 0) ≤ faults_at old i + 1 + tries_of lines i

-- Each listed directory that is dropped has a count past that from which on it was of the run.
abbrev pub AreGone : (ℕ → Bool) → List Asked → State → State → Type 0
AreGone live done old s = (i : ℕ) → i < old.count → live i ≡ false → IsPast (base_since old done i) (faults_at s i)

-- and each that is live has that count
abbrev pub AreSame : (ℕ → Bool) → List Asked → State → State → Type 0
AreSame live done old s = (i : ℕ) → i < old.count → live i ≡ true → faults_at s i ≡ base_since old done i

-- ---- what was seen

-- no count was seen below that at first or above that in the end
abbrev pub SeenWithin : List Asked → State → State → Type 0
SeenWithin seen old new = All (λ asked. (i : ℕ) → (faults_at old i ≤ asked.sight.faults i) × (asked.sight.faults i ≤ faults_at new i)) seen

-- So many lines were answered, and live were seen at each just those that hadn't failed since the run began or since they were last taken back; and so they stand.
pub record HasSeen (live : ℕ → Bool) (done : List Asked) (old s : State) : Type 0 where
  pub same : AreSame live done old s
  pub gone : AreGone live done old s
  pub few : AreFew live done old s
  pub based : AreBased old s (λ i. base_since old done i)
  pub sees : SeeLive old.count (λ i. faults_at old i) done
  pub within : SeenWithin done old s

-- So it is too behind a line that was not answered, but that a directory which it was to take back may be live.
pub record HasSeenOut (live : ℕ → Bool) (done : List Asked) (next : Asked) (old s : State) : Type 0 where
  pub gone : AreGone live done old s
  pub few : AreFew live (done ++ next ∷ []) old s
  pub sees : SeeLive old.count (λ i. faults_at old i) done
  pub within : SeenWithin done old s

-- ---- laws

-- all are live where no count rose
abbrev pub FirstIsSeen : Type 0
FirstIsSeen = (live : ℕ → Bool) (old s : State) → ((i : ℕ) → i < old.count → live i ≡ true) → SameCounts old s → HasSeen live [] old s

-- a step of no line: none is taken back
abbrev pub NextIsCounted : Type 0
NextIsCounted = (live live_after : ℕ → Bool) (done : List Asked) (old s new : State) → HasSeen live done old s → StepCounts None live live_after s new → HasSeen live_after done old new

-- the step of a line that was not answered
abbrev pub OutIsCounted : Type 0
OutIsCounted = (live live_after : ℕ → Bool) (done : List Asked) (next : Asked) (old s new : State) → HasSeen live done old s → StepCounts (restored_dir (reading_of next.line)) live live_after s new
    → HasSeenOut live_after done next old new

-- a line that was answered, and seen as it was
abbrev pub NextIsSeen : Type 0
NextIsSeen = (live live_after : ℕ → Bool) (done : List Asked) (next : Asked) (old s new : State) → HasSeen live done old s → StepCounts (restored_dir (reading_of next.line)) live live_after s new
    → ((i : ℕ) → next.sight.live i ≡ live_after i) → ((i : ℕ) → next.sight.faults i ≡ faults_at new i) → SeesRestored old.count live_after next → HasSeen live_after (done ++ next ∷ []) old new

-- a script has at most one line more than bytes, and as many as bytes where it is cut off
abbrev pub FewLines : Type 0
FewLines = (bytes : Bytes) → (length (lines_of bytes) ≤ length bytes + 1) × (length (ended_lines bytes) ≤ length bytes)
