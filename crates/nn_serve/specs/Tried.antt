-- What came of the lines that were to take a directory back, by what was seen at them: of every host.
use Rattle.std.specs.Prelude.{◌≡◌, ◌≢◌, ◌↔◌, ℕ, ◌-◌, ◌^◌, ◌<◌, true, List, [], ◌∷◌, ◌++◌, Some, if◌then◌else◌}
use Rattle.nn_script.specs.Lines.{has_no_answer}
use Rattle.nn_script.specs.Reading.{reading_of}
use Rattle.nn_run.specs.Running.{Sight, Asked, TakenBack, Missing, Inconsistent, Failed, restored_dir}

-- the counts that were seen at the last of these lines that has an answer, or these before any of them
abbrev pub counts_by : (ℕ → ℕ) → List Asked → ℕ → ℕ
counts_by first [] i = first i
counts_by first (asked ∷ later) i = counts_by (λ j. if has_no_answer asked.line then first j else asked.sight.faults j) later i

-- Counts stood so before a line that was to take this directory back: it is said to be taken back just where it is live behind the line, and to have failed just where its count rose in the line. Of a count at its last value that isn't said.
pub record IsTried (before : ℕ → ℕ) (sight : Sight) (i : ℕ) : Type 0 where
  pub back : (sight.restored ≡ TakenBack) ↔ (sight.live i ≡ true)
  pub failed : before i < 2 ^ 64 - 1 → (sight.restored ≡ Failed) ↔ (before i < sight.faults i)

-- so it is at each of these lines that is a `restore` of a listed directory
abbrev pub TriedTruly : ℕ → (ℕ → ℕ) → List Asked → Type 0
TriedTruly count first seen = (before : List Asked) (asked : Asked) (later : List Asked) → seen ≡ before ++ asked ∷ later
    → (i : ℕ) → i < count → restored_dir (reading_of asked.line) ≡ Some i → IsTried (λ j. counts_by first before j) asked.sight i

-- and none of them is answered `missing` or `inconsistent`
abbrev pub NoneUnfit : ℕ → List Asked → Type 0
NoneUnfit count seen = (before : List Asked) (asked : Asked) (later : List Asked) → seen ≡ before ++ asked ∷ later
    → (i : ℕ) → i < count → restored_dir (reading_of asked.line) ≡ Some i → (asked.sight.restored ≢ Missing) × (asked.sight.restored ≢ Inconsistent)
