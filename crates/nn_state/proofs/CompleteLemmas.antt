-- The states in which what is left of an operation is to be done, while they are recovered, and once they are.
use Rattle.std.proofs.Common.{◌≡◌, ◌⊎◌, inl, inr, ⊎_elim, ℕ, List, Bool, true, false, Ok, Some, None, refl, sym, ◌∙◌, ap, subst}
use Rattle.std.specs.Prelude.{is_some, if◌then◌else◌, ◌&&◌, not}
use Rattle.nn_base.specs.declared.sub.Sub.TheVariants.{Current, Previous, PreviousTmp, RemovedTmp, FinalizedTmp, LastCheckpointTmp, PreviousCheckpoint}
use Rattle.nn_base.specs.declared.file_name.FileName.TheVariants.{Version}
use Rattle.nn_host.specs.Disk.{Held, Disk, PartOf, RenameSub, after, with_sub}
use Rattle.nn_state.specs.declared.state.Seven.{Seven}
use Rattle.nn_state.specs.declared.state.StorageState.{StorageState}
use Rattle.nn_state.specs.declared.state.StorageState.TheVariants as state
use Rattle.nn_state.specs.Table.{seven_of, table_of}
use Rattle.nn_state.specs.Seat.{seat, seat_of, if_there}
use Rattle.nn_state.specs.Typed.{IsIn, FitsReady}
use Rattle.nn_state.specs.Renaming.{put_under, IsPutting}
use Rattle.nn_state.specs.Recovery.{SameSeat, KeepsSeat, IsRecovered}
use Rattle.nn_state.proofs.TableLemmas.{at_rest, in_upgrade, in_rollback, in_finalize, in_checkpoint, complete_upgrade_seven, complete_rollback_seven, complete_checkpoint_seven, finalize_seven, table_at_rest, table_fresh, seat_at_rest, seat_fresh, seat_in_upgrade, seat_in_rollback, seat_in_finalize, seat_in_checkpoint}
use Rattle.nn_state.proofs.PartLemmas.{part_checkpoint, part_removed, part_finalized}
use Rattle.nn_state.proofs.SeatLemmas.{same_if, same_seat, takes, takes_none, takes_if, unsaved_if, recovered, same_seat_refl}

-- ---- COMPLETE_UPGRADE

module _ {A : Type 0} (old : Held A) (fits : IsIn state.CompleteUpgrade old) where
  upgraded_seven : seven_of old ≡ in_upgrade true
  upgraded_seven = complete_upgrade_seven (seven_of old) fits

  upgraded_seat : seat_of (seven_of old) ≡ seat (Some Current) (Some PreviousTmp)
  upgraded_seat = ap seat_of upgraded_seven ∙ seat_in_upgrade true

  pub upgraded_renamed : (fresh : A) (add : A → List ℕ → A) → after fresh add (RenameSub PreviousTmp Previous) old ≡ put_under PreviousTmp Previous old
  upgraded_renamed fresh add = λ k. if (upgraded_seven k).previous_tmp && not ((upgraded_seven k).previous) then put_under PreviousTmp Previous old else old

  upgraded_after : seven_of (put_under PreviousTmp Previous old) ≡ at_rest true true
  upgraded_after = λ k. record {
    root = (upgraded_seven k).root;
    current = (upgraded_seven k).current;
    previous = true;
    previous_tmp = false;
    removed_tmp = (upgraded_seven k).removed_tmp;
    finalized_tmp = (upgraded_seven k).finalized_tmp;
    last_checkpoint_tmp = (upgraded_seven k).last_checkpoint_tmp;
  }

  pub upgraded_normal : IsIn state.Normal (put_under PreviousTmp Previous old)
  upgraded_normal = ap table_of upgraded_after ∙ table_at_rest true

  pub upgraded_old : SameSeat old old
  upgraded_old = same_seat_refl old state.CompleteUpgrade fits (λ k. (upgraded_seven k).root)

  pub upgraded_new : SameSeat old (put_under PreviousTmp Previous old)
  upgraded_new = same_seat old (put_under PreviousTmp Previous old) upgraded_seat (ap seat_of upgraded_after ∙ seat_at_rest true) (λ k. (upgraded_after k).root) (state.Normal, upgraded_normal) (λ n. refl) (λ n. refl)

  pub upgraded_recovered : IsRecovered old (put_under PreviousTmp Previous old)
  upgraded_recovered = recovered old (put_under PreviousTmp Previous old) state.CompleteUpgrade fits refl upgraded_seat refl
      (takes old (put_under PreviousTmp Previous old) Current Current (record { there = refl; files = λ n. refl }))
      (λ none. cc)
      (takes old (put_under PreviousTmp Previous old) PreviousTmp Previous (record { there = λ k. sym (ap (λ (s : Seven). s.previous_tmp) upgraded_seven) k; files = λ n. refl }))
      (λ none. cc)
      (record { there = refl; files = λ n. refl })
      (record { upgrade = refl; rollback = λ k. (upgraded_after k).removed_tmp; finalize = λ k. (upgraded_after k).finalized_tmp; checkpoint = λ k. (upgraded_after k).last_checkpoint_tmp })

-- ---- COMPLETE_CHECKPOINT

module _ {A : Type 0} (old : Held A) (fits : IsIn state.CompleteCheckpoint old) where
  replaced_seven : seven_of old ≡ in_checkpoint true (old.has Previous)
  replaced_seven = complete_checkpoint_seven (seven_of old) fits

  replaced_seat : seat_of (seven_of old) ≡ seat (Some Current) (if_there (old.has Previous) Previous)
  replaced_seat = ap seat_of replaced_seven ∙ seat_in_checkpoint (old.has Previous)

  pub replaced_there : old.has LastCheckpointTmp ≡ true
  replaced_there = λ k. (replaced_seven k).last_checkpoint_tmp

  abbrev replaced_put : Held A
  replaced_put = put_under LastCheckpointTmp PreviousCheckpoint old

  replaced_after : seven_of replaced_put ≡ at_rest true (old.has Previous)
  replaced_after = λ k. record {
    root = (replaced_seven k).root;
    current = (replaced_seven k).current;
    previous = old.has Previous;
    previous_tmp = (replaced_seven k).previous_tmp;
    removed_tmp = (replaced_seven k).removed_tmp;
    finalized_tmp = (replaced_seven k).finalized_tmp;
    last_checkpoint_tmp = false;
  }

  pub replaced_normal : IsIn state.Normal replaced_put
  replaced_normal = ap table_of replaced_after ∙ table_at_rest (old.has Previous)

  pub replaced_old : SameSeat old old
  replaced_old = same_seat_refl old state.CompleteCheckpoint fits (λ k. (replaced_seven k).root)

  pub replaced_new : SameSeat old replaced_put
  replaced_new = same_seat old replaced_put replaced_seat (ap seat_of replaced_after ∙ seat_at_rest (old.has Previous)) (λ k. (replaced_seven k).root) (state.Normal, replaced_normal) (λ n. refl) (same_if old replaced_put (old.has Previous) Previous (λ n. refl))

  pub replaced_recovered : IsRecovered old replaced_put
  replaced_recovered = recovered old replaced_put state.CompleteCheckpoint fits refl replaced_seat refl
      (takes old replaced_put Current Current (record { there = refl; files = λ n. refl }))
      (λ none. cc)
      (takes_if old replaced_put (old.has Previous) Previous Previous (record { there = refl; files = λ n. refl }))
      (unsaved_if old replaced_put (old.has Previous) refl)
      (record { there = λ k. sym replaced_there k; files = λ n. refl })
      (record { upgrade = λ k. (replaced_seven k).previous_tmp; rollback = λ k. (replaced_seven k).removed_tmp; finalize = λ k. (replaced_seven k).finalized_tmp; checkpoint = refl })

module _ (old : Disk) (fits : IsIn state.CompleteCheckpoint old) where
  replaced_part : (part : Disk) → PartOf PreviousCheckpoint old part → SameSeat old part
  replaced_part part is = same_seat old part (replaced_seat old fits) (ap seat_of same ∙ replaced_seat old fits) (is.root ∙ (λ k. (replaced_seven old fits k).root)) (state.CompleteCheckpoint, ap table_of same ∙ fits)
      (λ n. is.other_files Current n (λ x. cc)) (same_if old part (old.has Previous) Previous (λ n. is.other_files Previous n (λ x. cc)))
    where
      same : seven_of part ≡ seven_of old
      same = part_checkpoint is

  pub replaced_moment : (d : Disk) → IsPutting LastCheckpointTmp PreviousCheckpoint old d → KeepsSeat old d
  replaced_moment d is versioned = ⊎_elim
      (λ same. subst (SameSeat old) (sym same) (replaced_old old fits))
      (λ more. ⊎_elim (λ part. replaced_part d part) (λ put. subst (SameSeat old) (sym put) (replaced_new old fits)) more)
      is

-- ---- COMPLETE_ROLLBACK

module _ {A : Type 0} (old : Held A) (fits : IsIn state.CompleteRollback old) where
  rolled_seven : seven_of old ≡ in_rollback true false
  rolled_seven = complete_rollback_seven (seven_of old) fits

  rolled_seat : seat_of (seven_of old) ≡ seat (Some Current) None
  rolled_seat = ap seat_of rolled_seven ∙ seat_in_rollback

  abbrev rolled_new : Held A
  rolled_new = with_sub old RemovedTmp false (λ _. None)

  rolled_after : seven_of rolled_new ≡ at_rest true false
  rolled_after = λ k. record (rolled_seven k) { removed_tmp = false }

  pub rolled_ready : FitsReady rolled_new
  rolled_ready = record { normal = ap table_of rolled_after ∙ table_at_rest false; nothing_saved = λ k. (rolled_seven k).previous }

  pub rolled_old : SameSeat old old
  rolled_old = same_seat_refl old state.CompleteRollback fits (λ k. (rolled_seven k).root)

  pub rolled_recovered : IsRecovered old rolled_new
  rolled_recovered = recovered old rolled_new state.CompleteRollback fits refl rolled_seat refl
      (takes old rolled_new Current Current (record { there = refl; files = λ n. refl }))
      (λ none. cc)
      (takes_none old rolled_new Previous)
      (λ none k. (rolled_seven k).previous)
      (record { there = refl; files = λ n. refl })
      (record { upgrade = λ k. (rolled_seven k).previous_tmp; rollback = refl; finalize = λ k. (rolled_seven k).finalized_tmp; checkpoint = λ k. (rolled_seven k).last_checkpoint_tmp })

module _ (old : Disk) (fits : IsIn state.CompleteRollback old) where
  pub rolled_part : (part : Disk) → PartOf RemovedTmp old part → SameSeat old part
  rolled_part part is = ⊎_elim
      (λ gone. with_flag (at_rest true false) state.Normal (part_removed is ∙ (λ k. record (rolled_seven old fits k) { removed_tmp = gone k })) (table_at_rest false) (seat_at_rest false))
      (λ same. with_flag (in_rollback true false) state.CompleteRollback (part_removed is ∙ (λ k. record (seven_of old) { removed_tmp = same k }) ∙ rolled_seven old fits) (sym (ap table_of (rolled_seven old fits)) ∙ fits) seat_in_rollback)
      is.sub
    where
      with_flag : (s : Seven) (state : StorageState) → seven_of part ≡ s → table_of s ≡ Ok state → seat_of s ≡ seat (Some Current) None → SameSeat old part
      with_flag s state seven table there = same_seat old part (rolled_seat old fits) (ap seat_of seven ∙ there) (is.root ∙ (λ k. (rolled_seven old fits k).root)) (state, ap table_of seven ∙ table) (λ n. is.other_files Current n (λ x. cc)) tt

-- ---- COMPLETE_FINALIZE

table_served : (version : Bool) (s : Seven) → s ≡ at_rest version false → (table_of s ≡ Ok state.Normal) ⊎ (table_of s ≡ Ok state.NotFormatted)
table_served true s is = inl (ap table_of is ∙ table_at_rest false)
table_served false s is = inr (ap table_of is ∙ table_fresh)

module _ {A : Type 0} (old : Held A) (fits : IsIn state.CompleteFinalize old) where
  given_seven : seven_of old ≡ in_finalize (is_some (old.file Current Version))
  given_seven = finalize_seven (seven_of old) fits

  given_seat : seat_of (seven_of old) ≡ seat (if_there (is_some (old.file Current Version)) Current) None
  given_seat = ap seat_of given_seven ∙ seat_in_finalize (is_some (old.file Current Version))

  abbrev given_new : Held A
  given_new = with_sub old FinalizedTmp false (λ _. None)

  given_after : seven_of given_new ≡ at_rest (is_some (old.file Current Version)) false
  given_after = λ k. record (given_seven k) { finalized_tmp = false }

  pub given_either : IsIn state.Normal given_new ⊎ IsIn state.NotFormatted given_new
  given_either = table_served (is_some (old.file Current Version)) (seven_of given_new) given_after

  pub given_previous : given_new.has Previous ≡ false
  given_previous = λ k. (given_seven k).previous

  pub given_old : SameSeat old old
  given_old = same_seat_refl old state.CompleteFinalize fits (λ k. (given_seven k).root)

  pub given_recovered : IsRecovered old given_new
  given_recovered = recovered old given_new state.CompleteFinalize fits refl given_seat refl
      (takes_if old given_new (is_some (old.file Current Version)) Current Current (record { there = refl; files = λ n. refl }))
      (λ none. record { there = refl; files = λ n. refl })
      (takes_none old given_new Previous)
      (λ none k. (given_seven k).previous)
      (record { there = refl; files = λ n. refl })
      (record { upgrade = λ k. (given_seven k).previous_tmp; rollback = λ k. (given_seven k).removed_tmp; finalize = refl; checkpoint = λ k. (given_seven k).last_checkpoint_tmp })

table_either : (version : Bool) → (state : StorageState) × (table_of (at_rest version false) ≡ Ok state)
table_either true = (state.Normal, table_at_rest false)
table_either false = (state.NotFormatted, table_fresh)

seat_either : (version : Bool) → seat_of (at_rest version false) ≡ seat (if_there version Current) None
seat_either true = seat_at_rest false
seat_either false = seat_fresh

module _ (old : Disk) (fits : IsIn state.CompleteFinalize old) where
  pub given_part : (part : Disk) → PartOf FinalizedTmp old part → SameSeat old part
  given_part part is = ⊎_elim
      (λ gone.
      let found = table_either version in
      with_flag (at_rest version false) found.0 (part_finalized is ∙ (λ k. record (given_seven old fits k) { finalized_tmp = gone k })) found.1 (seat_either version))
      (λ same. with_flag (in_finalize version) state.CompleteFinalize (part_finalized is ∙ (λ k. record (seven_of old) { finalized_tmp = same k }) ∙ given_seven old fits) (sym (ap table_of (given_seven old fits)) ∙ fits) (seat_in_finalize version))
      is.sub
    where
      version : Bool
      version = is_some (old.file Current Version)

      with_flag : (s : Seven) (state : StorageState) → seven_of part ≡ s → table_of s ≡ Ok state → seat_of s ≡ seat (if_there version Current) None → SameSeat old part
      with_flag s state seven table there = same_seat old part (given_seat old fits) (ap seat_of seven ∙ there) (is.root ∙ (λ k. (given_seven old fits k).root)) (state, ap table_of seven ∙ table) (same_if old part version Current (λ n. is.other_files Current n (λ x. cc))) tt
