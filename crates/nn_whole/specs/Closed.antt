-- How a run is closed: its last line is no answer, and keeps what was kept.
use Rattle.std.specs.Prelude.{◌≡◌, ◌⊎◌, ℕ, Bool, List, [], ◌∷◌, ◌++◌, take, codes, Contains}
use Rattle.std.specs.Fmt.{decimal}
use Rattle.nn_base.specs.Paths.{Bytes}
use Rattle.nn_host.specs.Moments.{State}
use Rattle.nn_pick.specs.declared.refusal.Refusal.{Refusal}
use Rattle.nn_pick.specs.Lines.{refusal_line}
use Rattle.nn_pick.specs.Opening.{Opening}
use Rattle.nn_run.specs.Running.{Running, Asked}
use Rattle.nn_run.specs.Window.{Answered, commands_of, whole_in}
use Rattle.nn_run.specs.Course.{RunAsked, opening_of, answers_of, course_of, RunKept}
use Rattle.nn_run.specs.Flights.{OnlySays}

-- ---- last lines

-- the last lines of a run that has started
abbrev pub closing_lines : List Bytes
closing_lines = codes "stopped\n" ∷ codes "none left\n" ∷ codes "source fault\n" ∷ codes "script too long\n" ∷ codes "no memory\n" ∷ []

abbrev pub fault_line : ℕ → Bytes
fault_line i = codes "fault " ++ (decimal i ++ codes "\n")

-- those of one that has not: that it was refused, that a directory failed, that there was no memory
abbrev pub IsEarlyLine : Bytes → Type 0
IsEarlyLine text = ((refusal : Refusal) × (text ≡ refusal_line refusal)) ⊎ (((i : ℕ) × (text ≡ fault_line i)) ⊎ Contains closing_lines text)

-- no front of a last line has the answer to a line in it, whatever the lines are
abbrev pub ClosingAnswersNone : Type 0
ClosingAnswersNone = (count : ℕ) (run : Running) (lines : List Asked) (text : Bytes) (n : ℕ) → Contains closing_lines text → whole_in (commands_of count run lines) (take n text) ≡ 0

-- none of these says that a run has started
abbrev pub EarlyAnswersNone : Type 0
EarlyAnswersNone = (asked : RunAsked) (ctime : ℕ) (opened : Opening) (later : List Answered) (text : Bytes) (n : ℕ) → IsEarlyLine text → whole_in (opening_of asked ctime opened ++ later) (take n text) ≡ 0

-- ---- closing keeps

-- A run that has answered these lines, of those and the rest, is kept while its last line is said.
abbrev pub ClosedIsKept : Type 0
ClosedIsKept = (asked : RunAsked) (ctime : ℕ) (opened : Opening) (ahead : ℕ → Bool) (done rest : List Asked) (text : Bytes) (old mid new : State)
    → mid.now.said ≡ old.now.said ++ answers_of asked old.count ctime opened done → Contains closing_lines text
    → RunKept (Unit {0}) (course_of asked old.count ctime opened (done ++ rest) ahead) old mid → OnlySays (Unit {0}) text mid new
    → RunKept (Unit {0}) (course_of asked old.count ctime opened (done ++ rest) ahead) old new

-- So is one that never started.
abbrev pub EarlyIsKept : Type 0
EarlyIsKept = (asked : RunAsked) (ctime : ℕ) (opened : Opening) (ahead : ℕ → Bool) (seen : List Asked) (text : Bytes) (old mid new : State) → mid.now.said ≡ old.now.said → IsEarlyLine text
    → RunKept (Unit {0}) (course_of asked old.count ctime opened seen ahead) old mid → OnlySays (Unit {0}) text mid new
    → RunKept (Unit {0}) (course_of asked old.count ctime opened seen ahead) old new
