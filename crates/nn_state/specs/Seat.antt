-- A directory's seat: which folder serves as current and which as previous, before recovery as well as after it. It is read off the folders in place.
use Rattle.std.specs.Prelude.{Bool, Option, Some, None, Result, Ok, Err, if◌then◌else◌}
use Rattle.nn_base.specs.declared.sub.Sub.{Sub}
use Rattle.nn_base.specs.declared.sub.Sub.TheVariants.{Current, Previous, PreviousTmp, RemovedTmp, LastCheckpointTmp}
use Rattle.nn_host.specs.Disk.{Held}
use Rattle.nn_state.specs.declared.state.Seven.{Seven}
use Rattle.nn_state.specs.declared.state.StorageState.{StorageState}
use Rattle.nn_state.specs.declared.state.StorageState.TheVariants.{NonExistent, NotFormatted, Normal, CompleteUpgrade, RecoverUpgrade, CompleteFinalize, CompleteRollback, RecoverRollback, CompleteCheckpoint, RecoverCheckpoint}
use Rattle.nn_state.specs.declared.state.Why.{Why}
use Rattle.nn_state.specs.Table.{seven_of, table_of}

pub record Seat : Type 0 where
  pub current : Option Sub
  pub previous : Option Sub

abbrev pub seat : Option Sub → Option Sub → Seat
seat current previous = record { current = current; previous = previous }

abbrev pub if_there : Bool → Sub → Option Sub
if_there there sub = if there then Some sub else None

-- the seat of a state, by what else is there
abbrev pub seat_in : StorageState → Seven → Seat
seat_in NonExistent s = seat None None
seat_in NotFormatted s = seat None None
seat_in Normal s = seat (Some Current) (if_there s.previous Previous)
seat_in CompleteUpgrade s = seat (Some Current) (Some PreviousTmp)
seat_in RecoverUpgrade s = seat (Some PreviousTmp) None
seat_in CompleteFinalize s = seat (if_there s.current Current) None
seat_in CompleteRollback s = seat (Some Current) None
seat_in RecoverRollback s = seat (Some RemovedTmp) (Some Previous)
seat_in CompleteCheckpoint s = seat (Some Current) (if_there s.previous Previous)
seat_in RecoverCheckpoint s = seat (Some LastCheckpointTmp) (if_there s.previous Previous)

-- nothing serves where the table refuses
abbrev pub seat_by : Result StorageState Why → Seven → Seat
seat_by (Ok state) s = seat_in state s
seat_by (Err why) s = seat None None

abbrev pub seat_of : Seven → Seat
seat_of s = seat_by (table_of s) s

-- the folders of a directory that serve
abbrev pub serving : {A : Type 0} → Held A → Option Sub
serving d = (seat_of (seven_of d)).current

abbrev pub saved : {A : Type 0} → Held A → Option Sub
saved d = (seat_of (seven_of d)).previous
