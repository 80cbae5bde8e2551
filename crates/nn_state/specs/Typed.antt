-- Directories whose state is a type: which state of which directory it is, and that the contents are so.
use Rattle.std.specs.Prelude.{◌≡◌, true, false, Ok}
use Rattle.nn_base.specs.declared.ids.DirNo.{DirNo}
use Rattle.nn_base.specs.declared.sub.Sub.TheVariants.{Previous}
use Rattle.nn_host.specs.Disk.{Held}
use Rattle.nn_state.specs.declared.state.StorageState.{StorageState}
use Rattle.nn_state.specs.declared.state.StorageState.TheVariants as state
use Rattle.nn_state.specs.declared.typed.Found.{Found}
use Rattle.nn_state.specs.declared.typed.Found.TheVariants as found
use Rattle.nn_state.specs.declared.typed.Settled.{Settled}
use Rattle.nn_state.specs.declared.typed.Settled.TheVariants as settled
use Rattle.nn_state.specs.Table.{seven_of, table_of}

abbrev pub state_of : Found → StorageState
state_of (found.NonExistent it) = state.NonExistent
state_of (found.NotFormatted it) = state.NotFormatted
state_of (found.Normal it) = state.Normal
state_of (found.CompleteUpgrade it) = state.CompleteUpgrade
state_of (found.RecoverUpgrade it) = state.RecoverUpgrade
state_of (found.CompleteFinalize it) = state.CompleteFinalize
state_of (found.CompleteRollback it) = state.CompleteRollback
state_of (found.RecoverRollback it) = state.RecoverRollback
state_of (found.CompleteCheckpoint it) = state.CompleteCheckpoint
state_of (found.RecoverCheckpoint it) = state.RecoverCheckpoint

abbrev pub dir_of : Found → DirNo
dir_of (found.NonExistent it) = it.dir
dir_of (found.NotFormatted it) = it.dir
dir_of (found.Normal it) = it.dir
dir_of (found.CompleteUpgrade it) = it.dir
dir_of (found.RecoverUpgrade it) = it.dir
dir_of (found.CompleteFinalize it) = it.dir
dir_of (found.CompleteRollback it) = it.dir
dir_of (found.RecoverRollback it) = it.dir
dir_of (found.CompleteCheckpoint it) = it.dir
dir_of (found.RecoverCheckpoint it) = it.dir

-- the contents of a directory are in this state by the table
abbrev pub IsIn : {A : Type 0} → StorageState → Held A → Type 0
IsIn state d = table_of (seven_of d) ≡ Ok state

-- a state that was found fits the contents of its directory
abbrev pub FitsFound : {A : Type 0} → Found → Held A → Type 0
FitsFound it d = IsIn (state_of it) d

-- what a Fresh says of the contents of its directory, and what a Ready does
abbrev pub FitsFresh : {A : Type 0} → Held A → Type 0
FitsFresh d = IsIn state.NotFormatted d

pub record FitsReady {A : Type 0} (d : Held A) : Type 0 where
  pub normal : IsIn state.Normal d
  pub nothing_saved : d.has Previous ≡ false

-- what a ReadyWithPrevious says of them
pub record FitsWithPrevious {A : Type 0} (d : Held A) : Type 0 where
  pub normal : IsIn state.Normal d
  pub something_saved : d.has Previous ≡ true

-- the directory in which nothing is under way, and what it says of the contents
abbrev pub dir_in : Settled → DirNo
dir_in (settled.Ready it) = it.dir
dir_in (settled.ReadyWithPrevious it) = it.dir
dir_in (settled.Fresh it) = it.dir

abbrev pub FitsSettled : {A : Type 0} → Settled → Held A → Type 0
FitsSettled (settled.Ready it) d = FitsReady d
FitsSettled (settled.ReadyWithPrevious it) d = FitsWithPrevious d
FitsSettled (settled.Fresh it) d = FitsFresh d
