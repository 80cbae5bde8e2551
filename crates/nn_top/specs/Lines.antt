-- The last line of a run.
use Rattle.std.specs.Prelude.{[], ◌++◌, codes}
use Rattle.std.specs.Fmt.{decimal}
use Rattle.nn_base.specs.Paths.{Bytes}
use Rattle.nn_pick.specs.Lines.{refusal_line}
use Rattle.nn_server.specs.declared.status.Status.{Status}
use Rattle.nn_server.specs.declared.status.Status.TheVariants.{Ok, Stopped, Usage, Refused, HostFault, NoneLeft, SourceFault, ScriptTooLong, Memory, OutFault}

-- what a run says last, by the status that it ends with
abbrev pub last_line : Status → Bytes
last_line Ok = []
last_line Stopped = codes "stopped\n"
last_line Usage = codes "usage\n"
last_line (Refused refusal) = refusal_line refusal
last_line (HostFault i) = codes "fault " ++ (decimal i.0 ++ codes "\n")
last_line NoneLeft = codes "none left\n"
last_line SourceFault = codes "source fault\n"
last_line ScriptTooLong = codes "script too long\n"
last_line Memory = codes "no memory\n"
last_line OutFault = []
