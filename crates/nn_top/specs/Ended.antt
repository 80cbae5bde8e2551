-- A command that came to its end, in a run that was closed then.
use Rattle.std.specs.Prelude.{List}
use Rattle.nn_base.specs.Paths.{Bytes}
use Rattle.nn_host.specs.Moments.{Entry, State}
use Rattle.nn_server.specs.declared.status.Status.{Status}
use Rattle.nn_top.specs.Closes.{Closes}

-- a command came to an end and the run was closed: what the command's record tells of that end, of the lines and of the calls
-- recorded by then holds
pub record Ended {End : Type 0} (told : Type 0) (old new : State) (status_of : End → Status) (Ran : Bytes → List Entry → End → Type 0) (result : Status) : Type 0 where
  pub end : End
  pub lines : Bytes
  pub trace : List Entry
  pub ran : Ran lines trace end
  pub closes : Closes told trace old new lines (status_of end) result
