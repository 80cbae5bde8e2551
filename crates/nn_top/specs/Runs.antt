-- What a run over directories promises its operator, from its entry to its return.
use Rattle.std.specs.Prelude.{◌≡◌, ℕ, Bool, List, ◌++◌}
use Rattle.nn_base.specs.Paths.{Bytes}
use Rattle.nn_host.specs.Moments.{State}
use Rattle.nn_run.specs.Running.{Asked}
use Rattle.nn_run.specs.Course.{course_of}
use Rattle.nn_fill.specs.Filled.{generated}
use Rattle.nn_fill.specs.Tally.{tallied_course}
use Rattle.nn_whole.specs.Ended.{OpensToLast}
use Rattle.nn_whole.specs.Stopped.{RunLeaves}
use Rattle.nn_server.specs.declared.status.Status.{Status}
use Rattle.nn_server.specs.declared.status.Status.TheVariants.{Stopped}
use Rattle.nn_serve.specs.Ended.{run_status}
use Rattle.nn_serve.specs.Ran.{RunRan, BeginsSoundly, asked_at}
use Rattle.nn_serve.specs.Filled.{RunFilled}
use Rattle.nn_top.specs.Ended.{Ended}

-- Whatever happens, a fair stop at any moment finds what one at entry could leave, and no command answered; or directories of which
-- every choice with one of the run is sound for a start and opens to the Book after the commands that were answered, or after one
-- more, whatever lines come behind those that were read.
abbrev pub RunsSafely : ℕ → (old new : State) → BeginsSoundly old → List Asked → Type 0
RunsSafely at old new begins seen = (ahead : ℕ → Bool) (rest : List Asked)
    → RunLeaves (course_of (asked_at at) old.count begins.sound.opens.version.ctime begins.sound.opened (seen ++ rest) ahead) old new

-- And what reads at the return, if it is fair, opens to the Book after all commands in every such choice.
abbrev pub RunLeavesAll : ℕ → (old new : State) → BeginsSoundly old → List Asked → Type 0
RunLeavesAll at old new begins seen = OpensToLast (asked_at at) begins.sound.opened seen old new

-- A run that begins at this time over a source with this script, of which so much is left.
pub record RunDid (told told_source : Type 0) (at : ℕ) (script left : Bytes) (before after : ℕ) (old new : State) (result : Status) : Type 0 where
  pub ended : Ended told old new run_status (λ lines trace. RunRan told told_source at script left before after old new lines) result
  pub stops : told → (begins : BeginsSoundly old) → RunsSafely at old new begins ended.ran.seen
  pub stopped : told → result ≡ Stopped → (begins : BeginsSoundly old) → RunLeavesAll at old new begins ended.ran.seen

-- ---- over generated files

-- The same of a run whose lines are generated: the choice opens to the Book after some first ones of the lines while it wasn't said how many
-- commands there were, and to that after all of them from then on.
abbrev pub FillsSafely : (at files : ℕ) → (old new : State) → BeginsSoundly old → Type 0
FillsSafely at files old new begins =
    (ahead : ℕ → Bool) → RunLeaves (tallied_course (asked_at at) old.count begins.sound.opens.version.ctime begins.sound.opened (generated files) ahead) old new

-- A run over the lines of so many files that begins at this time.
pub record FillDid (told : Type 0) (at files : ℕ) (old new : State) (result : Status) : Type 0 where
  pub ended : Ended told old new run_status (λ lines trace. RunFilled told at files old new lines) result
  pub stops : told → (begins : BeginsSoundly old) → FillsSafely at files old new begins
  pub stopped : told → result ≡ Stopped → (begins : BeginsSoundly old) → RunLeavesAll at old new begins (generated files)
