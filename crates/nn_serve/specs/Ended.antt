-- The ways in which a run over directories ends.
use Rattle.nn_pick.specs.declared.fault.OpenFault.{OpenFault}
use Rattle.nn_pick.specs.declared.fault.OpenFault.TheVariants as fault
use Rattle.nn_core.specs.declared.event.End.{End}
use Rattle.nn_core.specs.declared.event.End.TheVariants as end
use Rattle.nn_reader.specs.Script.{Reached, AtEnd, TooLong, SourceFailed, OnTheWay}
use Rattle.nn_server.specs.declared.status.Status.{Status}
use Rattle.nn_server.specs.declared.status.Status.TheVariants as status
use Rattle.nn_serve.specs.declared.ending.RunEnd.{RunEnd}
use Rattle.nn_serve.specs.declared.ending.RunEnd.TheVariants.{Ended, Refused, HostFault, NoneLeft, SourceFault, ScriptTooLong, Memory, OutFault}

abbrev pub run_status : RunEnd → Status
run_status Ended = status.Stopped
run_status (Refused refusal) = status.Refused refusal
run_status (HostFault i) = status.HostFault i
run_status NoneLeft = status.NoneLeft
run_status SourceFault = status.SourceFault
run_status ScriptTooLong = status.ScriptTooLong
run_status Memory = status.Memory
run_status OutFault = status.OutFault

-- how far it read its script
abbrev pub run_reached : RunEnd → Reached
run_reached Ended = AtEnd
run_reached (Refused refusal) = OnTheWay
run_reached (HostFault i) = OnTheWay
run_reached NoneLeft = OnTheWay
run_reached SourceFault = SourceFailed
run_reached ScriptTooLong = TooLong
run_reached Memory = OnTheWay
run_reached OutFault = OnTheWay

-- how a run ends that didn't start
abbrev pub unstarted : OpenFault → RunEnd
unstarted (fault.Refused refusal) = Refused refusal
unstarted (fault.Failed i) = HostFault i
unstarted fault.Memory = Memory

-- how a run ends over a line
abbrev pub run_end : End → RunEnd
run_end end.NoneLeft = NoneLeft
run_end end.Memory = Memory
run_end end.OutFault = OutFault
