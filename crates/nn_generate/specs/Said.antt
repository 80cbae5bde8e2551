-- What a run of `generate` did: it said the script of so many files, or a front of it where the output failed.
use Rattle.std.specs.Prelude.{◌≡◌, ℕ, List, [], map}
use Rattle.nn_base.specs.Paths.{Bytes}
use Rattle.nn_host.specs.Moments.{State, Entry, Say}
use Rattle.nn_generate.specs.Generated.{script_of}
use Rattle.nn_say.specs.Records.{Records}
use Rattle.nn_say.specs.Saying.{CutOff, pieces_of}
use Rattle.nn_server.specs.declared.status.Status.{Status}
use Rattle.nn_server.specs.declared.status.Status.TheVariants as status
use Rattle.nn_generate.specs.declared.said.GenerateEnd.{GenerateEnd}
use Rattle.nn_generate.specs.declared.said.GenerateEnd.TheVariants.{Done, Memory, OutFault}
use Rattle.nn_server.specs.Came.{TouchesNoDir}

abbrev pub generate_status : GenerateEnd → Status
generate_status Done = status.Ok
generate_status Memory = status.Memory
generate_status OutFault = status.OutFault

-- what was said, and in which pieces: all of it; nothing, for want of memory; or the output failed over one of the pieces
abbrev pub GenerateSays : ℕ → GenerateEnd → Bytes → List Bytes → Type 0
GenerateSays count Done text pieces = (text ≡ script_of count) × (pieces ≡ pieces_of (script_of count))
GenerateSays count Memory text pieces = (text ≡ []) × (pieces ≡ [])
GenerateSays count OutFault text pieces = CutOff (pieces_of (script_of count)) text pieces

-- the host was asked for these sayings and for nothing else
pub record GenerateRan (told : Type 0) (count : ℕ) (old new : State) (text : Bytes) (trace : List Entry) (end : GenerateEnd) : Type 0 where
  pub said : told → (pieces : List Bytes) × Records (map Say pieces) old.trace trace × GenerateSays count end text pieces
  pub dirs : TouchesNoDir told old new
