-- A directory while what serves in it is given up, and once it is.
use Rattle.std.proofs.Common.{◌≡◌, ◌≢◌, ◌⊎◌, inl, inr, ⊎_elim, ℕ, List, Bool, true, false, Option, None, refl, sym, ◌∙◌, ap, subst}
use Rattle.std.specs.Prelude.{is_some, if◌then◌else◌, ◌&&◌, not}
use Rattle.nn_base.specs.declared.sub.Sub.{Sub}
use Rattle.nn_base.specs.declared.sub.Sub.TheVariants.{Current, Previous, PreviousTmp, RemovedTmp, FinalizedTmp, LastCheckpointTmp, PreviousCheckpoint}
use Rattle.nn_base.specs.declared.file_name.FileName.{FileName}
use Rattle.nn_base.specs.declared.file_name.FileName.TheVariants.{Version}
use Rattle.nn_host.specs.Disk.{Held, Disk, RenameSub, PartOf, after, with_file, with_sub}
use Rattle.nn_state.specs.declared.state.Seven.{Seven}
use Rattle.nn_state.specs.declared.state.StorageState.TheVariants.{CompleteFinalize}
use Rattle.nn_state.specs.Table.{seven_of, table_of}
use Rattle.nn_state.specs.Seat.{Seat, seat, seat_of, serving, saved, if_there}
use Rattle.nn_state.specs.Typed.{IsIn, FitsFresh}
use Rattle.nn_state.specs.Renaming.{put_under}
use Rattle.nn_state.specs.Recovery.{SameFolder}
use Rattle.nn_state.proofs.TableLemmas.{at_rest, in_finalize, normal_seven, fresh_seven, table_at_rest, table_fresh, table_in_finalize, seat_at_rest, seat_fresh, seat_in_finalize}
use Rattle.nn_state.proofs.PartLemmas.{part_current, part_checkpoint}
use Rattle.nn_state.proofs.SeatLemmas.{same_if, same_folder}
use Rattle.nn_remake.specs.Made.{IsBare}
use Rattle.nn_remake.specs.Clearing.{IsIdle, IsAtRest, IsGivingUp, IsGivenUp, KeepsCurrent}

-- ---- at rest

module _ {A : Type 0} (d : Held A) where
  idle_seven : IsIdle d → seven_of d ≡ at_rest (is_some (d.file Current Version)) (d.has Previous)
  idle_seven idle = λ k. record {
    root = idle.root k;
    current = is_some (d.file Current Version);
    previous = d.has Previous;
    previous_tmp = idle.no_tmp.upgrade k;
    removed_tmp = idle.no_tmp.rollback k;
    finalized_tmp = idle.no_tmp.finalize k;
    last_checkpoint_tmp = idle.no_tmp.checkpoint k;
  }

  rest_seven : IsAtRest d → seven_of d ≡ at_rest (is_some (d.file Current Version)) (d.has Previous)
  rest_seven (inl normal) = let e = normal_seven (seven_of d) normal in e ∙ (λ k. at_rest (sym (ap (λ (s : Seven). s.current) e) k) (d.has Previous))
  rest_seven (inr fresh) = let e = fresh_seven (seven_of d) fresh in e ∙ (λ k. at_rest (sym (ap (λ (s : Seven). s.current) e) k) (sym (ap (λ (s : Seven). s.previous) e) k))

  pub rest_idle : IsAtRest d → IsIdle d
  rest_idle rest =
      let e = rest_seven rest in
      record {
        root = λ k. (e k).root;
        no_tmp = record { upgrade = λ k. (e k).previous_tmp; rollback = λ k. (e k).removed_tmp; finalize = λ k. (e k).finalized_tmp; checkpoint = λ k. (e k).last_checkpoint_tmp };
      }

  at_version : (version : Bool) → seven_of d ≡ at_rest version false → IsAtRest d
  at_version true is = inl (ap table_of is ∙ table_at_rest false)
  at_version false is = inr (ap table_of is ∙ table_fresh)

seat_by_version : (version : Bool) → seat_of (at_rest version false) ≡ seat (if_there version Current) None
seat_by_version true = seat_at_rest false
seat_by_version false = seat_fresh

-- ---- `previous`

module _ {A : Type 0} (old : Held A) where
  pub giving_refl : IsGivingUp old old
  giving_refl = record { root = refl; subs = λ s a b. refl; files = λ s n a b. refl; previous = inl refl }

  abbrev pub moved : Held A
  moved = put_under Previous FinalizedTmp old

  moved_has : (s : Sub) → s ≢ Previous → s ≢ FinalizedTmp → moved.has s ≡ old.has s
  moved_has Current a b = refl
  moved_has Previous a b = absurd (a refl)
  moved_has PreviousTmp a b = refl
  moved_has RemovedTmp a b = refl
  moved_has FinalizedTmp a b = absurd (b refl)
  moved_has LastCheckpointTmp a b = refl
  moved_has PreviousCheckpoint a b = refl

  moved_file : (s : Sub) (n : FileName) → s ≢ Previous → s ≢ FinalizedTmp → moved.file s n ≡ old.file s n
  moved_file Current n a b = refl
  moved_file Previous n a b = absurd (a refl)
  moved_file PreviousTmp n a b = refl
  moved_file RemovedTmp n a b = refl
  moved_file FinalizedTmp n a b = absurd (b refl)
  moved_file LastCheckpointTmp n a b = refl
  moved_file PreviousCheckpoint n a b = refl

  pub giving_moved : IsGivingUp old moved
  giving_moved = record { root = refl; subs = moved_has; files = moved_file; previous = inr refl }

  module _ (idle : IsIdle old) where
    pub given_none : old.has Previous ≡ false → IsGivenUp old old
    given_none none = record { giving = giving_refl; previous = none; tmp = idle.no_tmp.finalize }

    pub renamed : old.has Previous ≡ true → (fresh : A) (add : A → List ℕ → A) → after fresh add (RenameSub Previous FinalizedTmp) old ≡ moved
    renamed there fresh add = λ k. if there k && not (idle.no_tmp.finalize k) then moved else old

  removed_has : (s : Sub) → s ≢ Previous → s ≢ FinalizedTmp → (with_sub moved FinalizedTmp false (λ _. None)).has s ≡ old.has s
  removed_has Current a b = refl
  removed_has Previous a b = absurd (a refl)
  removed_has PreviousTmp a b = refl
  removed_has RemovedTmp a b = refl
  removed_has FinalizedTmp a b = absurd (b refl)
  removed_has LastCheckpointTmp a b = refl
  removed_has PreviousCheckpoint a b = refl

  removed_file : (s : Sub) (n : FileName) → s ≢ Previous → s ≢ FinalizedTmp → (with_sub moved FinalizedTmp false (λ _. None)).file s n ≡ old.file s n
  removed_file Current n a b = refl
  removed_file Previous n a b = absurd (a refl)
  removed_file PreviousTmp n a b = refl
  removed_file RemovedTmp n a b = refl
  removed_file FinalizedTmp n a b = absurd (b refl)
  removed_file LastCheckpointTmp n a b = refl
  removed_file PreviousCheckpoint n a b = refl

  pub given_removed : IsGivenUp old (with_sub moved FinalizedTmp false (λ _. None))
  given_removed = record { giving = record { root = refl; subs = removed_has; files = removed_file; previous = inr refl }; previous = refl; tmp = refl }

pub giving_part : (old part : Disk) → PartOf FinalizedTmp (put_under Previous FinalizedTmp old) part → IsGivingUp old part
giving_part old part is = record {
  root = is.root;
  subs = λ s a b. is.other_subs s b ∙ (giving_moved old).subs s a b;
  files = λ s n a b. is.other_files s n b ∙ (giving_moved old).files s n a b;
  previous = inr (is.other_subs Previous (λ x. cc));
}

-- ---- what serves meanwhile

module _ (old d : Disk) (idle : IsIdle old) where
  pub given_seven : IsGivingUp old d → d.has Previous ≡ false → seven_of d ≡ record (at_rest (is_some (old.file Current Version)) false) { finalized_tmp = d.has FinalizedTmp }
  given_seven is gone =
      let e = idle_seven old idle in
      λ k. record {
        root = (is.root ∙ (λ j. (e j).root)) k;
        current = is_some (is.files Current Version (λ x. cc) (λ x. cc) k);
        previous = gone k;
        previous_tmp = (is.subs PreviousTmp (λ x. cc) (λ x. cc) ∙ (λ j. (e j).previous_tmp)) k;
        removed_tmp = (is.subs RemovedTmp (λ x. cc) (λ x. cc) ∙ (λ j. (e j).removed_tmp)) k;
        finalized_tmp = d.has FinalizedTmp;
        last_checkpoint_tmp = (is.subs LastCheckpointTmp (λ x. cc) (λ x. cc) ∙ (λ j. (e j).last_checkpoint_tmp)) k;
      }

  pub given_rest : IsGivenUp old d → IsAtRest d
  given_rest is = at_version d (is_some (old.file Current Version)) (given_seven is.giving is.previous ∙ (λ k. record (at_rest (is_some (old.file Current Version)) false) { finalized_tmp = is.tmp k }))

module _ (old d : Disk) (rest : IsAtRest old) where
  abbrev version : Bool
  version = is_some (old.file Current Version)

  old_current : (serving old ≡ if_there version Current)
  old_current = by_rest rest
    where
      by_rest : IsAtRest old → serving old ≡ if_there version Current
      by_rest (inl normal) =
          let e = normal_seven (seven_of old) normal in
          ap (λ (s : Seven). (seat_of s).current) e ∙ ap (λ (s : Seat). s.current) (seat_at_rest (old.has Previous)) ∙ (λ k. if_there (sym (ap (λ (s : Seven). s.current) e) k) Current)
      by_rest (inr fresh) =
          let e = fresh_seven (seven_of old) fresh in
          ap (λ (s : Seven). (seat_of s).current) e ∙ ap (λ (s : Seat). s.current) seat_fresh ∙ (λ k. if_there (sym (ap (λ (s : Seven). s.current) e) k) Current)

  -- in a state of these folders `current` serves where it has VERSION, and nothing is saved
  keeps_by : (s : Seven) → IsGivingUp old d → seven_of d ≡ s → s.root ≡ true → IsAtRest d ⊎ IsIn CompleteFinalize d → seat_of s ≡ seat (if_there version Current) None → KeepsCurrent old d
  keeps_by s is seven root state there = record {
    root = ap (λ (x : Seven). x.root) seven ∙ root;
    state = state;
    current = subst (λ (o : Option Sub). SameFolder o (serving d) old d) (sym old_current)
        (subst (λ (o : Option Sub). SameFolder (if_there version Current) o old d) (sym (ap (λ (x : Seven). (seat_of x).current) seven ∙ ap (λ (x : Seat). x.current) there)) (same_if old d version Current (λ n. is.files Current n (λ x. cc) (λ x. cc))));
    previous = inr (ap (λ (x : Seven). (seat_of x).previous) seven ∙ ap (λ (x : Seat). x.previous) there);
  }

  keeps_given : (tmp : Bool) → d.has FinalizedTmp ≡ tmp → IsGivingUp old d → d.has Previous ≡ false → KeepsCurrent old d
  keeps_given true told is gone =
      let seven = given_seven old d (rest_idle old rest) is gone ∙ (λ k. record (at_rest version false) { finalized_tmp = told k }) in
      keeps_by (in_finalize version) is seven refl (inr (ap table_of seven ∙ table_in_finalize version)) (seat_in_finalize version)
  keeps_given false told is gone =
      let seven = given_seven old d (rest_idle old rest) is gone ∙ (λ k. record (at_rest version false) { finalized_tmp = told k }) in
      keeps_by (at_rest version false) is seven refl (inl (at_version d version seven)) (seat_by_version version)

  keeps_old : KeepsCurrent old old
  keeps_old = record { root = λ k. (rest_seven old rest k).root; state = inl rest; current = same_folder old (serving old); previous = inl (same_folder old (saved old)) }

  pub giving_keeps : IsGivingUp old d → KeepsCurrent old d
  giving_keeps is = ⊎_elim (λ same. subst (KeepsCurrent old) (sym same) keeps_old) (λ gone. keeps_given (d.has FinalizedTmp) refl is gone) is.previous

-- ---- `current`

module _ (old : Disk) (idle : IsIdle old) (none : old.has Previous ≡ false) where
  pub unversioned : FitsFresh (with_file old Current Version None)
  unversioned =
      let e = idle_seven old idle in
      ap table_of ((λ k. record (e k) { current = false; previous = none k })) ∙ table_fresh

-- without VERSION a directory stays so while `current` is removed, and while `previous.checkpoint` is
module _ (d part : Disk) (fresh : FitsFresh d) where
  pub fresh_current : PartOf Current d part → FitsFresh part
  fresh_current is = ap table_of (part_current is (λ k. (fresh_seven (seven_of d) fresh k).current)) ∙ fresh

  pub fresh_checkpoint : PartOf PreviousCheckpoint d part → FitsFresh part
  fresh_checkpoint is = ap table_of (part_checkpoint is) ∙ fresh

-- the two removals leave no subfolder
pub bare : (d : Disk) → FitsFresh d → IsBare (with_sub (with_sub d Current false (λ _. None)) PreviousCheckpoint false (λ _. None))
bare d fresh = record { root = λ k. (seven k).root; subs = gone }
  where
    seven : seven_of d ≡ at_rest false false
    seven = fresh_seven (seven_of d) fresh

    gone : (s : Sub) → (with_sub (with_sub d Current false (λ _. None)) PreviousCheckpoint false (λ _. None)).has s ≡ false
    gone Current = refl
    gone Previous = λ k. (seven k).previous
    gone PreviousTmp = λ k. (seven k).previous_tmp
    gone RemovedTmp = λ k. (seven k).removed_tmp
    gone FinalizedTmp = λ k. (seven k).finalized_tmp
    gone LastCheckpointTmp = λ k. (seven k).last_checkpoint_tmp
    gone PreviousCheckpoint = refl
