-- How a run leaves its lines: what was seen stays so while more is said, and its last segment is ended with what was kept.
use Rattle.std.specs.Prelude.{◌≡◌, ℕ, ◌≤◌, Bool, ◌&&◌, List, [], ◌∷◌, ◌++◌, take, map}
use Rattle.nn_base.specs.Paths.{Bytes}
use Rattle.nn_host.specs.Moments.{State}
use Rattle.nn_host.specs.Runs.{Throughout, Unspoken}
use Rattle.nn_pick.specs.Opening.{Opening}
use Rattle.nn_kept.specs.Laws.{KeptInto}
use Rattle.nn_run.specs.Running.{Sight, Asked}
use Rattle.nn_run.specs.Course.{RunAsked, answers_of, course_of, RunKept}
use Rattle.nn_run.specs.Steps.{is_of_step}
use Rattle.nn_run.specs.Flights.{CountsRise}
use Rattle.nn_whole.specs.Served.{SeenTruly, Serving}
use Rattle.nn_whole.specs.Ended.{book_after}

-- lines that weren't reached, as if all of them were seen so
abbrev pub unreached : Sight → List Bytes → List Asked
unreached sight lines = map (λ line. record { line = line; sight = sight }) lines

abbrev pub AreTheLines : Type 0
AreTheLines = (sight : Sight) (lines : List Bytes) → map (λ (asked : Asked). asked.line) (unreached sight lines) ≡ lines

-- What was seen at the lines that were answered was seen truly, whatever else is said behind their answers: a part of an answer, or a last line.
abbrev pub MoreIsSaid : Type 0
MoreIsSaid = (asked : RunAsked) (ctime : ℕ) (opened : Opening) (done : List Asked) (text : Bytes) (old s new : State)
    → s.now.said ≡ old.now.said ++ answers_of asked old.count ctime opened done → SeenTruly (answers_of asked old.count ctime opened) done old s
    → Throughout (Unit {0}) s new (λ m. (n : ℕ) × (m.said ≡ s.now.said ++ take n text)) → SeenTruly (answers_of asked old.count ctime opened) done old new

-- Where nothing is said, no count falls and each moment keeps the Book after the lines that were answered, what was kept of the run is kept on.
abbrev pub EndingIsKept : Type 0
EndingIsKept = (asked : RunAsked) (ctime : ℕ) (opened : Opening) (ahead live holders : ℕ → Bool) (done later : List Asked) (old s new : State) → 1 ≤ asked.batch
    → Serving asked ctime opened ahead live holders done old s → Unspoken (Unit {0}) s new → CountsRise (Unit {0}) s new
    → Throughout (Unit {0}) s new (KeptInto (λ _. book_after asked old.count opened done ∷ []) old.count (λ _. is_of_step live s) (λ _ i d. holders i && is_of_step live s i d))
    → RunKept (Unit {0}) (course_of asked old.count ctime opened (done ++ later) ahead) old new
