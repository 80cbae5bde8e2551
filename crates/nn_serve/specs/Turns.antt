-- What one line of a run leads to, and its end.
use Rattle.std.specs.Prelude.{◌≡◌, ◌⊎◌, ℕ, ◌+◌, List, [], ◌∷◌, ◌++◌, Option, Some, None, Result, Ok, Err}
use Rattle.nn_base.specs.Paths.{Bytes}
use Rattle.nn_host.specs.Moments.{State}
use Rattle.nn_host.specs.Calls.{Spoke}
use Rattle.nn_host.specs.declared.host.Failed.{Failed}
use Rattle.nn_marks.specs.declared.version.Version.{Version}
use Rattle.nn_tree.specs.Namespace.{Namespace}
use Rattle.nn_script.specs.Reading.{reading_of}
use Rattle.nn_journal.specs.declared.journal.JournalSet.{JournalSet}
use Rattle.nn_run.specs.Running.{Asked}
use Rattle.nn_run.specs.Course.{started_line}
use Rattle.nn_script.specs.declared.command.ScriptCommand.{ScriptCommand}
use Rattle.nn_script.specs.declared.syntax.Syntax.{Syntax}
use Rattle.nn_core.specs.declared.event.Event.{Event}
use Rattle.nn_core.specs.declared.event.End.{End}
use Rattle.nn_core.specs.Events.{read_as}
use Rattle.nn_serve.specs.declared.ending.RunEnd.{RunEnd}
use Rattle.nn_serve.specs.declared.ending.RunEnd.TheVariants.{Ended, NoneLeft, Memory, OutFault}
use Rattle.nn_serve.specs.Ended.{run_end}
use Rattle.nn_serve.specs.Serving.{IsServing, HasRoom, EndsSo}

-- what a line reads as that is this event, or has no answer
abbrev pub read_of : Option Event → Result (Option ScriptCommand) Syntax
read_of (Some event) = read_as event
read_of None = Ok None

-- a line was answered, and the run goes on; or it ended over it
abbrev pub TurnsTo : Type 0 → ℕ → ℕ → Version → Namespace → ℕ → JournalSet → List Asked → Bytes → ℕ → State → State → Result (Unit {0}) End → Type 0
TurnsTo told at count version ns time journal seen line more old new (Ok done) = (next : Asked) × (next.line ≡ line) × IsServing told at count version ns time journal (seen ++ next ∷ []) old new × HasRoom told old journal more
TurnsTo told at count version ns time journal seen line more old new (Err end) = (next : Asked) × (next.line ≡ line) × EndsSo told at old new (seen ++ next ∷ []) (run_end end)

-- so it is in a run that has come to this state, whenever it began and whichever line of its script reads so
abbrev pub Turns : Type 0 → Bytes → ℕ → Version → Namespace → Namespace → ℕ → ℕ → JournalSet → JournalSet → State → State → Result (Unit {0}) End → Type 0
Turns told line count version ns ns_after time time_after journal after s new result = (at : ℕ) (seen : List Asked) (old : State) (whole : Bytes) (more : ℕ) → reading_of line ≡ reading_of whole
    → IsServing told at count version ns time journal seen old s → HasRoom told old journal (more + 1) → TurnsTo told at count version ns_after time_after after seen whole more old new result

-- its last segment was ended, or no directory was left
abbrev pub Closes : Type 0 → ℕ → Version → Namespace → ℕ → JournalSet → State → State → RunEnd → Type 0
Closes told count version ns time journal s new end = ((end ≡ Ended) ⊎ (end ≡ NoneLeft))
    × ((at : ℕ) (seen : List Asked) (old : State) (more : ℕ) → IsServing told at count version ns time journal seen old s → HasRoom told old journal more → EndsSo told at old new seen end)

-- it was said that a run has started, from this id on; or there was no memory for that, and nothing happened; or the output failed over it
abbrev pub SaysStarted : Type 0 → ℕ → State → State → Result (Unit {0}) RunEnd → Type 0
SaysStarted told last old new (Ok done) = Spoke {E = Failed} told (started_line last) old new (Ok done)
SaysStarted told last old new (Err end) = ((end ≡ OutFault) × ((failed : Failed) × Spoke {T = Unit {0}} told (started_line last) old new (Err failed))) ⊎ ((end ≡ Memory) × (new ≡ old))
