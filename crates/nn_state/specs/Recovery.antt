-- A recovery: the folders that serve hold the same files at each moment of it, and afterwards they are `current` and `previous`.
use Rattle.std.specs.Prelude.{◌≡◌, ℕ, true, false, Option, Some, None, is_some, Result, Ok}
use Rattle.nn_base.specs.declared.sub.Sub.{Sub}
use Rattle.nn_base.specs.declared.sub.Sub.TheVariants.{Current, Previous, PreviousTmp, RemovedTmp, FinalizedTmp, LastCheckpointTmp, PreviousCheckpoint}
use Rattle.nn_base.specs.declared.file_name.FileName.{FileName}
use Rattle.nn_base.specs.declared.file_name.FileName.TheVariants.{Version}
use Rattle.nn_host.specs.Disk.{Held}
use Rattle.nn_host.specs.Moments.{State, disk_at}
use Rattle.nn_state.specs.declared.state.StorageState.{StorageState}
use Rattle.nn_state.specs.declared.state.StorageState.TheVariants.{CompleteCheckpoint}
use Rattle.nn_state.specs.declared.state.Why.{Why}
use Rattle.nn_state.specs.Table.{seven_of, table_of}
use Rattle.nn_state.specs.Seat.{serving, saved}
use Rattle.nn_state.specs.Typed.{IsIn}

-- ---- at each moment

-- Both folders hold the same files, or there is neither.
abbrev pub SameFolder : {A : Type 0} → Option Sub → Option Sub → Held A → Held A → Type 0
SameFolder None None old new = Unit {0}
SameFolder None (Some b) old new = ⊥
SameFolder (Some a) None old new = ⊥
SameFolder (Some a) (Some b) old new = (n : FileName) → new.file b n ≡ old.file a n

-- the directory has a state, and the folders that serve in it hold the same files as those that served
pub record SameSeat {A : Type 0} (old new : Held A) : Type 0 where
  pub root : new.root ≡ true
  pub state : (state : StorageState) × IsIn state new
  pub current : SameFolder (serving old) (serving new) old new
  pub previous : SameFolder (saved old) (saved new) old new

-- the folder that serves as current, if there is one, has VERSION
abbrev pub HasServingVersion : {A : Type 0} → Held A → Type 0
HasServingVersion d = (sub : Sub) → serving d ≡ Some sub → is_some (d.file sub Version) ≡ true

-- without VERSION in it, a folder stops to serve once it has the name `current`
abbrev pub KeepsSeat : {A : Type 0} → Held A → Held A → Type 0
KeepsSeat old new = HasServingVersion old → SameSeat old new

-- ---- afterwards

-- the second folder is there where the first one was, with the files that it had
pub record IsFrom {A : Type 0} (from to : Sub) (old new : Held A) : Type 0 where
  pub there : new.has to ≡ old.has from
  pub files : (n : FileName) → new.file to n ≡ old.file from n

-- no temporary folder is there
pub record HasNoTmp {A : Type 0} (d : Held A) : Type 0 where
  pub upgrade : d.has PreviousTmp ≡ false
  pub rollback : d.has RemovedTmp ≡ false
  pub finalize : d.has FinalizedTmp ≡ false
  pub checkpoint : d.has LastCheckpointTmp ≡ false

-- the folder that is to be `previous.checkpoint`: what a checkpoint replaced, or the one that has this name
abbrev pub to_keep : Result StorageState Why → Sub
to_keep (Ok CompleteCheckpoint) = LastCheckpointTmp
to_keep other = PreviousCheckpoint

pub record IsRecovered {A : Type 0} (old new : Held A) : Type 0 where
  pub root : new.root ≡ old.root
  pub current : (sub : Sub) → serving old ≡ Some sub → IsFrom sub Current old new
  pub unserved : serving old ≡ None → IsFrom Current Current old new
  pub previous : (sub : Sub) → saved old ≡ Some sub → IsFrom sub Previous old new
  pub unsaved : saved old ≡ None → new.has Previous ≡ false
  pub checkpoint : IsFrom (to_keep (table_of (seven_of old))) PreviousCheckpoint old new
  pub no_tmp : HasNoTmp new

-- on the disk of this directory, and as it reads
pub record WasRecovered (i : ℕ) (old new : State) : Type 0 where
  pub disk : IsRecovered (disk_at old i) (disk_at new i)
  pub reads : IsRecovered (old.reads i) (new.reads i)
