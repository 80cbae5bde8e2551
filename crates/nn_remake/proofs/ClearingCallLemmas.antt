-- The calls by which a state is given up: what the directory is at each moment of them, and once they returned.
use Rattle.std.proofs.Common.{◌≡◌, ◌⊎◌, inl, inr, ⊎_elim, ℕ, [], ◌++◌, true, false, Result, Ok, Err, refl, sym, ◌∙◌, ap, subst}
use Rattle.std.specs.Prelude.{OnOk}
use Rattle.nn_base.specs.declared.sub.Sub.TheVariants.{Current, Previous, PreviousTmp, RemovedTmp, FinalizedTmp, LastCheckpointTmp, PreviousCheckpoint}
use Rattle.nn_base.specs.declared.file_name.FileName.TheVariants.{Version}
use Rattle.nn_host.specs.Disk.{Disk, Reads, RenameSub, RemoveSub, RemoveFile, PartOf, disk_after, reads_after, fresh_file, add_pending}
use Rattle.nn_host.specs.Moments.{State, IsLawful, disk_at}
use Rattle.nn_host.specs.Calls.{Called, Done}
use Rattle.nn_host.specs.Runs.{OnlyAt}
use Rattle.nn_host.proofs.WorkLemmas.{work_refl, work_once, work_more, work_trans, work_weaker}
use Rattle.nn_state.specs.declared.typed.Settled.{Settled}
use Rattle.nn_state.specs.declared.typed.Settled.TheVariants as settled
use Rattle.nn_state.specs.Typed.{FitsFresh, FitsSettled}
use Rattle.nn_remake.specs.Made.{IsBare}
use Rattle.nn_remake.specs.Clearing.{IsIdle, IsAtRest, IsGivingUp, IsGivenUp, WasGivenUp, KeepsCurrent, IsClearing}
use Rattle.nn_remake.proofs.ClearingLemmas.{giving_refl, moved, giving_moved, giving_part, given_none, given_removed, given_rest, rest_idle, giving_keeps, renamed, unversioned, bare, fresh_current, fresh_checkpoint}

pub settled_rest : (it : Settled) (d : Disk) → FitsSettled it d → IsAtRest d
settled_rest (settled.Ready it) d fits = inl fits.normal
settled_rest (settled.ReadyWithPrevious it) d fits = inl fits.normal
settled_rest (settled.Fresh it) d fits = inr fits

idle_left : (i : ℕ) (a : State) → IsLawful a → IsIdle (disk_at a i) → IsIdle (a.reads i)
idle_left i a lawful idle =
    let left = lawful.reads i in
    record {
      root = left.root ∙ idle.root;
      no_tmp = record { upgrade = left.subs PreviousTmp ∙ idle.no_tmp.upgrade; rollback = left.subs RemovedTmp ∙ idle.no_tmp.rollback; finalize = left.subs FinalizedTmp ∙ idle.no_tmp.finalize; checkpoint = left.subs LastCheckpointTmp ∙ idle.no_tmp.checkpoint };
    }

-- ---- `previous`

pub given_already : {told : Type 0} (i : ℕ) (a : State) → (told → IsLawful a) → (told → IsIdle (disk_at a i)) → (told → (disk_at a i).has Previous ≡ false) → told → WasGivenUp i a a
given_already i a lawful idle none tells = record {
  disk = given_none (disk_at a i) (idle tells) (none tells);
  reads = given_none (a.reads i) (idle_left i a (lawful tells) (idle tells)) (((lawful tells).reads i).subs Previous ∙ none tells);
}

pub given_still : {told : Type 0} (i : ℕ) (a : State) → OnlyAt told i a a (IsGivingUp (disk_at a i))
given_still i a = work_refl (λ tells. giving_refl (disk_at a i))

module _ {told : Type 0} (i : ℕ) (a : State) (idle : told → IsIdle (disk_at a i)) (there : told → (disk_at a i).has Previous ≡ true) where
  renamed_disk : told → disk_after (RenameSub Previous FinalizedTmp) (a.reads i) (disk_at a i) ≡ moved (disk_at a i)
  renamed_disk tells = renamed (disk_at a i) (idle tells) (there tells) fresh_file add_pending

  pub first_given : {T E : Type 0} {b : State} {result : Result T E} → Called told i (RenameSub Previous FinalizedTmp) a b result → OnlyAt told i a b (IsGivingUp (disk_at a i))
  first_given called = work_once called (λ tells. giving_refl (disk_at a i)) (λ tells part made. subst (IsGivingUp (disk_at a i)) (sym (made ∙ renamed_disk tells)) (giving_moved (disk_at a i)))

  module _ {T E : Type 0} {v : T} {b : State} (first : Called {E = E} told i (RenameSub Previous FinalizedTmp) a b (Ok v)) where
    at_moved : told → disk_at b i ≡ moved (disk_at a i)
    at_moved tells = (first.effect tells).ok.disk ∙ renamed_disk tells

    pub second_given : {U F : Type 0} {c : State} {result : Result U F} → Called told i (RemoveSub FinalizedTmp) b c result → OnlyAt told i a c (IsGivingUp (disk_at a i))
    second_given second = work_more (first_given first) second (λ tells now part made. giving_part (disk_at a i) part (subst (λ (d : Disk). PartOf FinalizedTmp d part) (at_moved tells) made))

    pub both_given : {U F : Type 0} {c : State} (result : Result U F) → (told → IsLawful a) → Called told i (RemoveSub FinalizedTmp) b c result → told → OnOk result (WasGivenUp i a c)
    both_given {U} {F} {c} result lawful second tells = last result (second.effect tells).ok
      where
        last : (r : Result U F) → OnOk r (Done i (RemoveSub FinalizedTmp) b c) → OnOk r (WasGivenUp i a c)
        last (Err e) done = tt
        last (Ok w) done = record {
          disk = subst (IsGivenUp (disk_at a i)) (sym (done.disk ∙ ap (λ (d : Disk). disk_after (RemoveSub FinalizedTmp) (b.reads i) d) (at_moved tells))) (given_removed (disk_at a i));
          reads = subst (IsGivenUp (a.reads i))
              (sym (done.reads ∙ ap (λ (r : Reads). reads_after (RemoveSub FinalizedTmp) r)
              ((first.effect tells).ok.reads ∙ renamed (a.reads i) (idle_left i a (lawful tells) (idle tells)) (((lawful tells).reads i).subs Previous ∙ there tells) [] (λ old more. old ++ more))))
              (given_removed (a.reads i));
        }

-- ---- `current`

abbrev FreshOrOld : Disk → Disk → Type 0
FreshOrOld old d = FitsFresh d ⊎ (d ≡ old)

module _ {told : Type 0} {i : ℕ} {a b : State} where
  module _ (idle : told → IsIdle (disk_at a i)) (none : told → (disk_at a i).has Previous ≡ false) where
    pub unversioned_work : {T E : Type 0} {result : Result T E} → Called told i (RemoveFile Current Version) a b result → OnlyAt told i a b (FreshOrOld (disk_at a i))
    unversioned_work called = work_once called (λ tells. inr refl) (λ tells part made. inl (subst FitsFresh (sym made) (unversioned (disk_at a i) (idle tells) (none tells))))

    pub unversioned_was : {T E : Type 0} (result : Result T E) → Called told i (RemoveFile Current Version) a b result → told → OnOk result (FitsFresh (disk_at b i))
    unversioned_was {T} {E} result called tells = last result (called.effect tells).ok
      where
        last : (r : Result T E) → OnOk r (Done i (RemoveFile Current Version) a b) → OnOk r (FitsFresh (disk_at b i))
        last (Err e) done = tt
        last (Ok v) done = subst FitsFresh (sym done.disk) (unversioned (disk_at a i) (idle tells) (none tells))

  pub unversioned_then : {c : State} → OnlyAt told i a b (FreshOrOld (disk_at a i)) → OnlyAt told i b c FitsFresh → OnlyAt told i a c (FreshOrOld (disk_at a i))
  unversioned_then p q = work_trans p (work_weaker q (λ tells d fresh. inl fresh))

-- ---- without VERSION

module _ {told : Type 0} {i : ℕ} {a b : State} (fresh : told → FitsFresh (disk_at a i)) where
  pub emptying : {T E : Type 0} {result : Result T E} → Called told i (RemoveSub Current) a b result → OnlyAt told i a b FitsFresh
  emptying called = work_once called fresh (λ tells part made. fresh_current (disk_at a i) part (fresh tells) made)

  module _ {T E : Type 0} {v : T} (first : Called {E = E} told i (RemoveSub Current) a b (Ok v)) where
    pub emptied : {U F : Type 0} {c : State} {result : Result U F} → Called told i (RemoveSub PreviousCheckpoint) b c result → OnlyAt told i a c FitsFresh
    emptied called = work_more (emptying first) called (λ tells now part made. fresh_checkpoint (disk_at b i) part now made)

    pub was_bared : {U F : Type 0} {c : State} (result : Result U F) → Called told i (RemoveSub PreviousCheckpoint) b c result → told → OnOk result (IsBare (disk_at c i))
    was_bared {U} {F} {c} result second tells = last result (second.effect tells).ok
      where
        last : (r : Result U F) → OnOk r (Done i (RemoveSub PreviousCheckpoint) b c) → OnOk r (IsBare (disk_at c i))
        last (Err e) done = tt
        last (Ok w) done = subst IsBare (sym (done.disk ∙ ap (λ (d : Disk). disk_after (RemoveSub PreviousCheckpoint) (b.reads i) d) (first.effect tells).ok.disk)) (bare (disk_at a i) (fresh tells))

-- ---- both

-- so it is where the table has a state for it
abbrev ClearingAtRest : Disk → Disk → Type 0
ClearingAtRest old d = IsAtRest old → IsClearing old d

pub clearing_given : {told : Type 0} {i : ℕ} {a b : State} → OnlyAt told i a b (IsGivingUp (disk_at a i)) → OnlyAt told i a b (ClearingAtRest (disk_at a i))
clearing_given {i = i} {a = a} p = work_weaker p (λ tells d is rest. inr (giving_keeps (disk_at a i) d rest is))

module _ {told : Type 0} {i : ℕ} {a b : State} (idle : told → IsIdle (disk_at a i)) (was : told → WasGivenUp i a b) where
  pub then_idle : told → IsIdle (disk_at b i)
  then_idle tells = rest_idle (disk_at b i) (given_rest (disk_at a i) (disk_at b i) (idle tells) (was tells).disk)

  pub clearing_all : {c : State} → OnlyAt told i a b (IsGivingUp (disk_at a i)) → OnlyAt told i b c (λ d. FitsFresh d ⊎ (d ≡ disk_at b i)) → OnlyAt told i a c (ClearingAtRest (disk_at a i))
  clearing_all p q = work_trans (clearing_given p) (work_weaker q (λ tells d is rest. ⊎_elim
      (λ fresh. inl fresh)
      (λ same. inr (subst (λ (x : Disk). KeepsCurrent (disk_at a i) x) (sym same) (giving_keeps (disk_at a i) (disk_at b i) rest (was tells).disk.giving)))
      is))

-- of one that was at rest
pub cleared_at_rest : {told : Type 0} {i : ℕ} {a b : State} → (told → IsAtRest (disk_at a i)) → OnlyAt told i a b (λ d. IsAtRest (disk_at a i) → IsClearing (disk_at a i) d) → OnlyAt told i a b (IsClearing (disk_at a i))
cleared_at_rest rest p = work_weaker p (λ tells d is. is (rest tells))
