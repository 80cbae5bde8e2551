-- How the process ends.
use Rattle.std.specs.Prelude.{◌≡◌, ◌⊎◌, Some, ℕ, List, [], length}
use Rattle.nn_base.specs.Paths.{Bytes}
use Rattle.nn_host.specs.Moments.{State}
use Rattle.nn_files.specs.Untold.{unfailed_state}
use Rattle.nn_server.specs.declared.status.Status.{Status}
use Rattle.nn_server.specs.declared.status.Status.TheVariants.{Memory}
use Rattle.nn_server.specs.Codes.{code_of}
use Rattle.nn_top.specs.Wanted.{Wanted, dirs_in}
use Rattle.nn_top.specs.Commands.{wanted_by, HaveNoReading}
use Rattle.nn_top.specs.Did.{Unread, Did}

-- this is the exit code of a status that a run ended with of which this is told
abbrev pub ExitsAs : (Status → Type 0) → ℕ → Type 0
ExitsAs Ends code = (status : Status) × (code ≡ code_of status) × Ends status

-- a run that was asked for this comes to this status over folders and a source that tell nothing and hadn't failed before
abbrev pub CanEndBy : Wanted → Status → Type 0
CanEndBy wanted status = (faults : ℕ) × (new : State) × Did ⊥ ⊥ (λ n. []) (λ n. n) wanted 0 faults (unfailed_state (length (dirs_in wanted))) new status

-- by the code of a status that a run may come to, as its words ask for; by that of want of memory, where that came before the run
pub record ExitsBy (words : List Bytes) (exit : ℕ) : Type 0 where
  pub read : (wanted : Wanted) → wanted_by words ≡ Some wanted → (exit ≡ code_of Memory) ⊎ ExitsAs (CanEndBy wanted) exit
  pub unread : HaveNoReading words → (exit ≡ code_of Memory) ⊎ ExitsAs (λ status. (new : State) × Unread ⊥ (unfailed_state 0) new status) exit
