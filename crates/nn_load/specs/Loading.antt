-- What loading a folder answers.
use Rattle.std.specs.Prelude.{Bool, true, false, Result, Ok, Err}
use Rattle.nn_host.specs.declared.host.ListFault.{ListFault}
use Rattle.nn_host.specs.declared.host.ListFault.TheVariants as list_fault
use Rattle.nn_marks.specs.declared.version.Version.{Version}
use Rattle.nn_chain.specs.Folder.{Folder}
use Rattle.nn_chain.specs.Images.{HasNoImage}
use Rattle.nn_load.specs.declared.fault.ChainFault.{ChainFault}
use Rattle.nn_load.specs.declared.fault.ChainFault.TheVariants.{Failed, NoImage, Memory}

-- no call of the host failed
abbrev pub answered_chain : {T : Type 0} → Result T ChainFault → Bool
answered_chain (Ok value) = true
answered_chain (Err Failed) = false
answered_chain (Err (NoImage why)) = true
answered_chain (Err Memory) = true

-- What is told of a folder that wasn't loaded: why none of its images is intact, so that it has no chain. A call that failed tells nothing of it, nor does want of memory.
abbrev pub IsUnchained : Folder → Version → ChainFault → Type 0
IsUnchained folder version Failed = Unit {0}
IsUnchained folder version (NoImage why) = HasNoImage folder version why
IsUnchained folder version Memory = Unit {0}

-- the answer where the folder wasn't listed
abbrev pub unlisted : ListFault → ChainFault
unlisted list_fault.Failed = Failed
unlisted list_fault.Memory = Memory
