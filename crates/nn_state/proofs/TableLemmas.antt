-- What each state says of the folders, and what the folders say of the seat.
use Rattle.std.proofs.Common.{◌≡◌, ◌≢◌, Bool, true, false, Ok, Some, None, refl, arith}
use Rattle.std.specs.Prelude.{is_some, if◌then◌else◌}
use Rattle.nn_base.specs.declared.sub.Sub.{Sub}
use Rattle.nn_base.specs.declared.sub.Sub.TheVariants.{Current, Previous, PreviousTmp, RemovedTmp, FinalizedTmp, LastCheckpointTmp}
use Rattle.nn_base.specs.declared.file_name.FileName.TheVariants.{Version}
use Rattle.nn_host.specs.Disk.{Held}
use Rattle.nn_state.specs.declared.state.Seven.{Seven}
use Rattle.nn_state.specs.declared.state.StorageState.{StorageState}
use Rattle.nn_state.specs.declared.state.StorageState.TheVariants.{NonExistent, NotFormatted, Normal, CompleteUpgrade, RecoverUpgrade, CompleteFinalize, CompleteRollback, RecoverRollback, CompleteCheckpoint, RecoverCheckpoint}
use Rattle.nn_state.specs.Table.{seven_of, table_of, rows, first_row}
use Rattle.nn_state.specs.Seat.{seat_of, seat, if_there}

-- ---- the folders of each state

abbrev flags : Bool → Bool → Bool → Bool → Bool → Bool → Bool → Seven
flags root upgrade rollback finalize checkpoint current previous = record { root = root; current = current; previous = previous; previous_tmp = upgrade; removed_tmp = rollback; finalized_tmp = finalize; last_checkpoint_tmp = checkpoint }

-- nothing is under way
abbrev pub at_rest : Bool → Bool → Seven
at_rest current previous = flags true false false false false current previous

abbrev pub in_upgrade : Bool → Seven
in_upgrade current = flags true true false false false current false

abbrev pub in_rollback : Bool → Bool → Seven
in_rollback current previous = flags true false true false false current previous

abbrev pub in_finalize : Bool → Seven
in_finalize current = flags true false false true false current false

abbrev pub in_checkpoint : Bool → Bool → Seven
in_checkpoint current previous = flags true false false false true current previous

normal_flags : (root a b c d current previous : Bool) → first_row (rows (flags root a b c d current previous)) ≡ Ok Normal → flags root a b c d current previous ≡ at_rest true previous
normal_flags true false false false false true previous e = refl
normal_flags root a b c d current previous e = grind (arith, e)

fresh_flags : (root a b c d current previous : Bool) → first_row (rows (flags root a b c d current previous)) ≡ Ok NotFormatted → flags root a b c d current previous ≡ at_rest false false
fresh_flags true false false false false false false e = refl
fresh_flags root a b c d current previous e = grind (arith, e)

complete_upgrade_flags : (root a b c d current previous : Bool) → first_row (rows (flags root a b c d current previous)) ≡ Ok CompleteUpgrade → flags root a b c d current previous ≡ in_upgrade true
complete_upgrade_flags true true false false false true false e = refl
complete_upgrade_flags root a b c d current previous e = grind (arith, e)

recover_upgrade_flags : (root a b c d current previous : Bool) → first_row (rows (flags root a b c d current previous)) ≡ Ok RecoverUpgrade → flags root a b c d current previous ≡ in_upgrade false
recover_upgrade_flags true true false false false false false e = refl
recover_upgrade_flags root a b c d current previous e = grind (arith, e)

finalize_flags : (root a b c d current previous : Bool) → first_row (rows (flags root a b c d current previous)) ≡ Ok CompleteFinalize → flags root a b c d current previous ≡ in_finalize current
finalize_flags true false false true false current false e = refl
finalize_flags root a b c d current previous e = grind (arith, e)

complete_rollback_flags : (root a b c d current previous : Bool) → first_row (rows (flags root a b c d current previous)) ≡ Ok CompleteRollback → flags root a b c d current previous ≡ in_rollback true false
complete_rollback_flags true false true false false true false e = refl
complete_rollback_flags root a b c d current previous e = grind (arith, e)

recover_rollback_flags : (root a b c d current previous : Bool) → first_row (rows (flags root a b c d current previous)) ≡ Ok RecoverRollback → flags root a b c d current previous ≡ in_rollback false true
recover_rollback_flags true false true false false false true e = refl
recover_rollback_flags root a b c d current previous e = grind (arith, e)

complete_checkpoint_flags : (root a b c d current previous : Bool) → first_row (rows (flags root a b c d current previous)) ≡ Ok CompleteCheckpoint → flags root a b c d current previous ≡ in_checkpoint true previous
complete_checkpoint_flags true false false false true true previous e = refl
complete_checkpoint_flags root a b c d current previous e = grind (arith, e)

recover_checkpoint_flags : (root a b c d current previous : Bool) → first_row (rows (flags root a b c d current previous)) ≡ Ok RecoverCheckpoint → flags root a b c d current previous ≡ in_checkpoint false previous
recover_checkpoint_flags true false false false true false previous e = refl
recover_checkpoint_flags root a b c d current previous e = grind (arith, e)

rooted_flags : (root a b c d current previous : Bool) (state : StorageState) → first_row (rows (flags root a b c d current previous)) ≡ Ok state → state ≢ NonExistent → root ≡ true
rooted_flags true a b c d current previous state e there = refl
rooted_flags false a b c d current previous state e there = absurd (there cc)

module _ (s : Seven) where
  pub rooted : (state : StorageState) → table_of s ≡ Ok state → state ≢ NonExistent → s.root ≡ true
  unfolding table_of
  rooted state e there = rooted_flags s.root s.previous_tmp s.removed_tmp s.finalized_tmp s.last_checkpoint_tmp s.current s.previous state e there

  pub normal_seven : table_of s ≡ Ok Normal → s ≡ at_rest true s.previous
  unfolding table_of
  normal_seven e = normal_flags s.root s.previous_tmp s.removed_tmp s.finalized_tmp s.last_checkpoint_tmp s.current s.previous e

  pub fresh_seven : table_of s ≡ Ok NotFormatted → s ≡ at_rest false false
  unfolding table_of
  fresh_seven e = fresh_flags s.root s.previous_tmp s.removed_tmp s.finalized_tmp s.last_checkpoint_tmp s.current s.previous e

  pub complete_upgrade_seven : table_of s ≡ Ok CompleteUpgrade → s ≡ in_upgrade true
  unfolding table_of
  complete_upgrade_seven e = complete_upgrade_flags s.root s.previous_tmp s.removed_tmp s.finalized_tmp s.last_checkpoint_tmp s.current s.previous e

  pub recover_upgrade_seven : table_of s ≡ Ok RecoverUpgrade → s ≡ in_upgrade false
  unfolding table_of
  recover_upgrade_seven e = recover_upgrade_flags s.root s.previous_tmp s.removed_tmp s.finalized_tmp s.last_checkpoint_tmp s.current s.previous e

  pub finalize_seven : table_of s ≡ Ok CompleteFinalize → s ≡ in_finalize s.current
  unfolding table_of
  finalize_seven e = finalize_flags s.root s.previous_tmp s.removed_tmp s.finalized_tmp s.last_checkpoint_tmp s.current s.previous e

  pub complete_rollback_seven : table_of s ≡ Ok CompleteRollback → s ≡ in_rollback true false
  unfolding table_of
  complete_rollback_seven e = complete_rollback_flags s.root s.previous_tmp s.removed_tmp s.finalized_tmp s.last_checkpoint_tmp s.current s.previous e

  pub recover_rollback_seven : table_of s ≡ Ok RecoverRollback → s ≡ in_rollback false true
  unfolding table_of
  recover_rollback_seven e = recover_rollback_flags s.root s.previous_tmp s.removed_tmp s.finalized_tmp s.last_checkpoint_tmp s.current s.previous e

  pub complete_checkpoint_seven : table_of s ≡ Ok CompleteCheckpoint → s ≡ in_checkpoint true s.previous
  unfolding table_of
  complete_checkpoint_seven e = complete_checkpoint_flags s.root s.previous_tmp s.removed_tmp s.finalized_tmp s.last_checkpoint_tmp s.current s.previous e

  pub recover_checkpoint_seven : table_of s ≡ Ok RecoverCheckpoint → s ≡ in_checkpoint false s.previous
  unfolding table_of
  recover_checkpoint_seven e = recover_checkpoint_flags s.root s.previous_tmp s.removed_tmp s.finalized_tmp s.last_checkpoint_tmp s.current s.previous e

-- ---- the table's answer and the seat

pub table_at_rest : (previous : Bool) → table_of (at_rest true previous) ≡ Ok Normal
unfolding table_of
table_at_rest previous = refl

pub table_fresh : table_of (at_rest false false) ≡ Ok NotFormatted
unfolding table_of
table_fresh = refl

pub table_in_finalize : (current : Bool) → table_of (in_finalize current) ≡ Ok CompleteFinalize
unfolding table_of
table_in_finalize current = refl

pub seat_at_rest : (previous : Bool) → seat_of (at_rest true previous) ≡ seat (Some Current) (if_there previous Previous)
unfolding table_of
seat_at_rest previous = refl

pub seat_fresh : seat_of (at_rest false false) ≡ seat None None
unfolding table_of
seat_fresh = refl

pub seat_in_upgrade : (current : Bool) → seat_of (in_upgrade current) ≡ (if current then seat (Some Current) (Some PreviousTmp) else seat (Some PreviousTmp) None)
unfolding table_of
seat_in_upgrade true = refl
seat_in_upgrade false = refl

pub seat_in_rollback : seat_of (in_rollback true false) ≡ seat (Some Current) None
unfolding table_of
seat_in_rollback = refl

pub seat_back_in_rollback : seat_of (in_rollback false true) ≡ seat (Some RemovedTmp) (Some Previous)
unfolding table_of
seat_back_in_rollback = refl

pub seat_in_finalize : (current : Bool) → seat_of (in_finalize current) ≡ seat (if_there current Current) None
unfolding table_of
seat_in_finalize current = refl

pub seat_in_checkpoint : (previous : Bool) → seat_of (in_checkpoint true previous) ≡ seat (Some Current) (if_there previous Previous)
unfolding table_of
seat_in_checkpoint previous = refl

pub seat_back_in_checkpoint : (previous : Bool) → seat_of (in_checkpoint false previous) ≡ seat (Some LastCheckpointTmp) (if_there previous Previous)
unfolding table_of
seat_back_in_checkpoint previous = refl

-- ---- the same folders, and VERSION there or not

pub seven_by : {A B : Type 0} (d : Held A) (e : Held B) → e.root ≡ d.root → ((s : Sub) → e.has s ≡ d.has s) → is_some (e.file Current Version) ≡ is_some (d.file Current Version) → seven_of e ≡ seven_of d
seven_by d e root has version = λ k. record {
  root = root k;
  current = version k;
  previous = has Previous k;
  previous_tmp = has PreviousTmp k;
  removed_tmp = has RemovedTmp k;
  finalized_tmp = has FinalizedTmp k;
  last_checkpoint_tmp = has LastCheckpointTmp k;
}
