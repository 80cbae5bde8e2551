-- The exit status of each way to end, and the status of a run of `dry`.
use Rattle.std.specs.Prelude.{ℕ}
use Rattle.nn_server.specs.declared.dry_run.DryEnd.{DryEnd}
use Rattle.nn_server.specs.declared.dry_run.DryEnd.TheVariants as dry
use Rattle.nn_server.specs.declared.status.Status.{Status}
use Rattle.nn_server.specs.declared.status.Status.TheVariants.{Ok, Stopped, Usage, Refused, HostFault, NoneLeft, SourceFault, ScriptTooLong, Memory, OutFault}

abbrev pub code_of : Status → ℕ
code_of Ok = 0
code_of Stopped = 0
code_of Usage = 1
code_of (Refused refusal) = 2
code_of (HostFault i) = 3
code_of NoneLeft = 4
code_of SourceFault = 5
code_of ScriptTooLong = 6
code_of Memory = 7
code_of OutFault = 8

abbrev pub dry_status : DryEnd → Status
dry_status dry.Done = Ok
dry_status dry.SourceFault = SourceFault
dry_status dry.ScriptTooLong = ScriptTooLong
dry_status dry.Memory = Memory
dry_status dry.OutFault = OutFault
