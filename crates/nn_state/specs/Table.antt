-- The seven truth values of a directory, as it reads or on the disk, and the table of storage states.
use Rattle.std.specs.Prelude.{ℕ, ◌+◌, Bool, not, ◌&&◌, nat_lt, ◌==◌, List, [], ◌∷◌, Result, Ok, Err, is_some, if◌then◌else◌}
use Rattle.nn_base.specs.declared.sub.Sub.TheVariants.{Current, Previous, PreviousTmp, RemovedTmp, FinalizedTmp, LastCheckpointTmp}
use Rattle.nn_base.specs.declared.file_name.FileName.TheVariants.{Version}
use Rattle.nn_host.specs.Disk.{Held}
use Rattle.nn_state.specs.declared.state.Seven.{Seven}
use Rattle.nn_state.specs.declared.state.StorageState.{StorageState}
use Rattle.nn_state.specs.declared.state.StorageState.TheVariants.{NonExistent, NotFormatted, Normal, CompleteUpgrade, RecoverUpgrade, CompleteFinalize, CompleteRollback, RecoverRollback, CompleteCheckpoint, RecoverCheckpoint}
use Rattle.nn_state.specs.declared.state.Why.{Why}
use Rattle.nn_state.specs.declared.state.Why.TheVariants.{PreviousAlone, SeveralTmp, FinalizedAndPrevious, UpgradeAndPrevious, RollbackBoth, RollbackNeither}

-- the seven truth values of what a directory holds
abbrev pub seven_of : {A : Type 0} → Held A → Seven
seven_of d = record {
  root = d.root;
  current = is_some (d.file Current Version);
  previous = d.has Previous;
  previous_tmp = d.has PreviousTmp;
  removed_tmp = d.has RemovedTmp;
  finalized_tmp = d.has FinalizedTmp;
  last_checkpoint_tmp = d.has LastCheckpointTmp;
}

abbrev pub one_if : Bool → ℕ
one_if b = if b then 1 else 0

-- how many temporary folders there are
abbrev pub tmp_count : Seven → ℕ
tmp_count s = one_if s.previous_tmp + one_if s.removed_tmp + one_if s.finalized_tmp + one_if s.last_checkpoint_tmp

-- a row of the table: its test, and its answer
abbrev pub Row : Type 0
Row = Bool × Result StorageState Why

abbrev pub rows : Seven → List Row
rows s =
    (not s.root, Ok NonExistent)
    ∷ (tmp_count s == 0 && s.current, Ok Normal)
    ∷ (tmp_count s == 0 && s.previous, Err PreviousAlone)
    ∷ (tmp_count s == 0, Ok NotFormatted)
    ∷ (nat_lt 1 (tmp_count s), Err SeveralTmp)
    ∷ (s.last_checkpoint_tmp, Ok (if s.current then CompleteCheckpoint else RecoverCheckpoint))
    ∷ (s.finalized_tmp && s.previous, Err FinalizedAndPrevious)
    ∷ (s.finalized_tmp, Ok CompleteFinalize)
    ∷ (s.previous_tmp && s.previous, Err UpgradeAndPrevious)
    ∷ (s.previous_tmp, Ok (if s.current then CompleteUpgrade else RecoverUpgrade))
    ∷ (s.removed_tmp && s.current && s.previous, Err RollbackBoth)
    ∷ (s.removed_tmp && not s.current && not s.previous, Err RollbackNeither)
    ∷ (s.removed_tmp, Ok (if s.current then CompleteRollback else RecoverRollback))
    ∷ []

-- the answer of the first row whose test holds; one of the rows above always does
abbrev pub first_row : List Row → Result StorageState Why
first_row [] = Err SeveralTmp
first_row (row ∷ later) = if row.0 then row.1 else first_row later

unfoldable pub table_of : Seven → Result StorageState Why
table_of s = first_row (rows s)
