-- The states in which a folder gets the name `current` back, while they are recovered, and once they are.
use Rattle.std.proofs.Common.{◌≡◌, ⊎_elim, true, false, Some, None, refl, sym, ◌∙◌, ap, subst}
use Rattle.std.specs.Prelude.{is_some}
use Rattle.nn_base.specs.declared.sub.Sub.TheVariants.{Current, Previous, PreviousTmp, RemovedTmp, LastCheckpointTmp}
use Rattle.nn_base.specs.declared.file_name.FileName.TheVariants.{Version}
use Rattle.nn_host.specs.Disk.{Held, Disk, PartOf}
use Rattle.nn_state.specs.declared.state.StorageState.TheVariants as state
use Rattle.nn_state.specs.Table.{seven_of, table_of}
use Rattle.nn_state.specs.Seat.{seat, seat_of, if_there}
use Rattle.nn_state.specs.Typed.{IsIn}
use Rattle.nn_state.specs.Renaming.{put_under, IsPutting}
use Rattle.nn_state.specs.Recovery.{SameSeat, HasServingVersion, KeepsSeat, IsRecovered}
use Rattle.nn_state.proofs.TableLemmas.{at_rest, in_upgrade, in_rollback, in_checkpoint, recover_upgrade_seven, recover_rollback_seven, recover_checkpoint_seven, table_at_rest, seat_at_rest, seat_in_upgrade, seat_back_in_rollback, seat_back_in_checkpoint}
use Rattle.nn_state.proofs.PartLemmas.{part_current}
use Rattle.nn_state.proofs.SeatLemmas.{same_if, same_seat, takes, takes_none, takes_if, unsaved_if, recovered, same_seat_refl}

-- ---- RECOVER_UPGRADE

module _ {A : Type 0} (old : Held A) (fits : IsIn state.RecoverUpgrade old) where
  taken_seven : seven_of old ≡ in_upgrade false
  taken_seven = recover_upgrade_seven (seven_of old) fits

  taken_seat : seat_of (seven_of old) ≡ seat (Some PreviousTmp) None
  taken_seat = ap seat_of taken_seven ∙ seat_in_upgrade false

  pub taken_there : old.has PreviousTmp ≡ true
  taken_there = λ k. (taken_seven k).previous_tmp

  abbrev taken_put : Held A
  taken_put = put_under PreviousTmp Current old

  taken_after : is_some (old.file PreviousTmp Version) ≡ true → seven_of taken_put ≡ at_rest true false
  taken_after version = λ k. record {
    root = (taken_seven k).root;
    current = version k;
    previous = (taken_seven k).previous;
    previous_tmp = false;
    removed_tmp = (taken_seven k).removed_tmp;
    finalized_tmp = (taken_seven k).finalized_tmp;
    last_checkpoint_tmp = (taken_seven k).last_checkpoint_tmp;
  }

  taken_version : HasServingVersion old → is_some (old.file PreviousTmp Version) ≡ true
  taken_version versioned = versioned PreviousTmp (λ k. (taken_seat k).current)

  pub taken_normal : HasServingVersion old → IsIn state.Normal taken_put
  taken_normal versioned = ap table_of (taken_after (taken_version versioned)) ∙ table_at_rest false

  pub taken_previous : taken_put.has Previous ≡ false
  taken_previous = λ k. (taken_seven k).previous

  pub taken_old : SameSeat old old
  taken_old = same_seat_refl old state.RecoverUpgrade fits (λ k. (taken_seven k).root)

  pub taken_new : HasServingVersion old → SameSeat old taken_put
  taken_new versioned = same_seat old taken_put taken_seat (ap seat_of (taken_after (taken_version versioned)) ∙ seat_at_rest false) (λ k. (taken_seven k).root) (state.Normal, taken_normal versioned) (λ n. refl) tt

  pub taken_recovered : IsRecovered old taken_put
  taken_recovered = recovered old taken_put state.RecoverUpgrade fits refl taken_seat refl
      (takes old taken_put PreviousTmp Current (record { there = λ k. sym taken_there k; files = λ n. refl }))
      (λ none. cc)
      (takes_none old taken_put Previous)
      (λ none k. (taken_seven k).previous)
      (record { there = refl; files = λ n. refl })
      (record {
        upgrade = refl;
        rollback = λ k. (taken_seven k).removed_tmp;
        finalize = λ k. (taken_seven k).finalized_tmp;
        checkpoint = λ k. (taken_seven k).last_checkpoint_tmp;
      })

module _ (old : Disk) (fits : IsIn state.RecoverUpgrade old) where
  taken_part : (part : Disk) → PartOf Current old part → SameSeat old part
  taken_part part is = same_seat old part (taken_seat old fits) (ap seat_of same ∙ taken_seat old fits) (is.root ∙ (λ k. (taken_seven old fits k).root)) (state.RecoverUpgrade, ap table_of same ∙ fits) (λ n. is.other_files PreviousTmp n (λ x. cc)) tt
    where
      same : seven_of part ≡ seven_of old
      same = part_current is (λ k. (taken_seven old fits k).current)

  pub taken_moment : (d : Disk) → IsPutting PreviousTmp Current old d → KeepsSeat old d
  taken_moment d is versioned = ⊎_elim
      (λ same. subst (SameSeat old) (sym same) (taken_old old fits))
      (λ more. ⊎_elim (λ part. taken_part d part) (λ put. subst (SameSeat old) (sym put) (taken_new old fits versioned)) more)
      is

-- ---- RECOVER_ROLLBACK

module _ {A : Type 0} (old : Held A) (fits : IsIn state.RecoverRollback old) where
  returned_seven : seven_of old ≡ in_rollback false true
  returned_seven = recover_rollback_seven (seven_of old) fits

  returned_seat : seat_of (seven_of old) ≡ seat (Some RemovedTmp) (Some Previous)
  returned_seat = ap seat_of returned_seven ∙ seat_back_in_rollback

  pub returned_there : old.has RemovedTmp ≡ true
  returned_there = λ k. (returned_seven k).removed_tmp

  abbrev returned_put : Held A
  returned_put = put_under RemovedTmp Current old

  returned_after : is_some (old.file RemovedTmp Version) ≡ true → seven_of returned_put ≡ at_rest true true
  returned_after version = λ k. record {
    root = (returned_seven k).root;
    current = version k;
    previous = (returned_seven k).previous;
    previous_tmp = (returned_seven k).previous_tmp;
    removed_tmp = false;
    finalized_tmp = (returned_seven k).finalized_tmp;
    last_checkpoint_tmp = (returned_seven k).last_checkpoint_tmp;
  }

  returned_version : HasServingVersion old → is_some (old.file RemovedTmp Version) ≡ true
  returned_version versioned = versioned RemovedTmp (λ k. (returned_seat k).current)

  pub returned_normal : HasServingVersion old → IsIn state.Normal returned_put
  returned_normal versioned = ap table_of (returned_after (returned_version versioned)) ∙ table_at_rest true

  pub returned_previous : returned_put.has Previous ≡ true
  returned_previous = λ k. (returned_seven k).previous

  pub returned_old : SameSeat old old
  returned_old = same_seat_refl old state.RecoverRollback fits (λ k. (returned_seven k).root)

  pub returned_new : HasServingVersion old → SameSeat old returned_put
  returned_new versioned = same_seat old returned_put returned_seat (ap seat_of (returned_after (returned_version versioned)) ∙ seat_at_rest true) (λ k. (returned_seven k).root) (state.Normal, returned_normal versioned) (λ n. refl) (λ n. refl)

  pub returned_recovered : IsRecovered old returned_put
  returned_recovered = recovered old returned_put state.RecoverRollback fits refl returned_seat refl
      (takes old returned_put RemovedTmp Current (record { there = λ k. sym returned_there k; files = λ n. refl }))
      (λ none. cc)
      (takes old returned_put Previous Previous (record { there = refl; files = λ n. refl }))
      (λ none. cc)
      (record { there = refl; files = λ n. refl })
      (record {
        upgrade = λ k. (returned_seven k).previous_tmp;
        rollback = refl;
        finalize = λ k. (returned_seven k).finalized_tmp;
        checkpoint = λ k. (returned_seven k).last_checkpoint_tmp;
      })

module _ (old : Disk) (fits : IsIn state.RecoverRollback old) where
  returned_part : (part : Disk) → PartOf Current old part → SameSeat old part
  returned_part part is = same_seat old part (returned_seat old fits) (ap seat_of same ∙ returned_seat old fits) (is.root ∙ (λ k. (returned_seven old fits k).root)) (state.RecoverRollback, ap table_of same ∙ fits) (λ n. is.other_files RemovedTmp n (λ x. cc)) (λ n. is.other_files Previous n (λ x. cc))
    where
      same : seven_of part ≡ seven_of old
      same = part_current is (λ k. (returned_seven old fits k).current)

  pub returned_moment : (d : Disk) → IsPutting RemovedTmp Current old d → KeepsSeat old d
  returned_moment d is versioned = ⊎_elim
      (λ same. subst (SameSeat old) (sym same) (returned_old old fits))
      (λ more. ⊎_elim (λ part. returned_part d part) (λ put. subst (SameSeat old) (sym put) (returned_new old fits versioned)) more)
      is

-- ---- RECOVER_CHECKPOINT

module _ {A : Type 0} (old : Held A) (fits : IsIn state.RecoverCheckpoint old) where
  restored_seven : seven_of old ≡ in_checkpoint false (old.has Previous)
  restored_seven = recover_checkpoint_seven (seven_of old) fits

  restored_seat : seat_of (seven_of old) ≡ seat (Some LastCheckpointTmp) (if_there (old.has Previous) Previous)
  restored_seat = ap seat_of restored_seven ∙ seat_back_in_checkpoint (old.has Previous)

  pub restored_there : old.has LastCheckpointTmp ≡ true
  restored_there = λ k. (restored_seven k).last_checkpoint_tmp

  abbrev restored_put : Held A
  restored_put = put_under LastCheckpointTmp Current old

  restored_after : is_some (old.file LastCheckpointTmp Version) ≡ true → seven_of restored_put ≡ at_rest true (old.has Previous)
  restored_after version = λ k. record {
    root = (restored_seven k).root;
    current = version k;
    previous = (restored_seven k).previous;
    previous_tmp = (restored_seven k).previous_tmp;
    removed_tmp = (restored_seven k).removed_tmp;
    finalized_tmp = (restored_seven k).finalized_tmp;
    last_checkpoint_tmp = false;
  }

  restored_version : HasServingVersion old → is_some (old.file LastCheckpointTmp Version) ≡ true
  restored_version versioned = versioned LastCheckpointTmp (λ k. (restored_seat k).current)

  pub restored_normal : HasServingVersion old → IsIn state.Normal restored_put
  restored_normal versioned = ap table_of (restored_after (restored_version versioned)) ∙ table_at_rest (old.has Previous)

  pub restored_previous : restored_put.has Previous ≡ (old.has Previous)
  restored_previous = λ k. (restored_seven k).previous

  pub restored_old : SameSeat old old
  restored_old = same_seat_refl old state.RecoverCheckpoint fits (λ k. (restored_seven k).root)

  pub restored_new : HasServingVersion old → SameSeat old restored_put
  restored_new versioned = same_seat old restored_put restored_seat (ap seat_of (restored_after (restored_version versioned)) ∙ seat_at_rest (old.has Previous)) (λ k. (restored_seven k).root) (state.Normal, restored_normal versioned) (λ n. refl) (same_if old restored_put (old.has Previous) Previous (λ n. refl))

  pub restored_recovered : IsRecovered old restored_put
  restored_recovered = recovered old restored_put state.RecoverCheckpoint fits refl restored_seat refl
      (takes old restored_put LastCheckpointTmp Current (record { there = λ k. sym restored_there k; files = λ n. refl }))
      (λ none. cc)
      (takes_if old restored_put (old.has Previous) Previous Previous (record { there = refl; files = λ n. refl }))
      (unsaved_if old restored_put (old.has Previous) refl)
      (record { there = refl; files = λ n. refl })
      (record {
        upgrade = λ k. (restored_seven k).previous_tmp;
        rollback = λ k. (restored_seven k).removed_tmp;
        finalize = λ k. (restored_seven k).finalized_tmp;
        checkpoint = refl;
      })

module _ (old : Disk) (fits : IsIn state.RecoverCheckpoint old) where
  restored_part : (part : Disk) → PartOf Current old part → SameSeat old part
  restored_part part is = same_seat old part (restored_seat old fits) (ap seat_of same ∙ restored_seat old fits) (is.root ∙ (λ k. (restored_seven old fits k).root)) (state.RecoverCheckpoint, ap table_of same ∙ fits) (λ n. is.other_files LastCheckpointTmp n (λ x. cc)) (same_if old part (old.has Previous) Previous (λ n. is.other_files Previous n (λ x. cc)))
    where
      same : seven_of part ≡ seven_of old
      same = part_current is (λ k. (restored_seven old fits k).current)

  pub restored_moment : (d : Disk) → IsPutting LastCheckpointTmp Current old d → KeepsSeat old d
  restored_moment d is versioned = ⊎_elim
      (λ same. subst (SameSeat old) (sym same) (restored_old old fits))
      (λ more. ⊎_elim (λ part. restored_part d part) (λ put. subst (SameSeat old) (sym put) (restored_new old fits versioned)) more)
      is
