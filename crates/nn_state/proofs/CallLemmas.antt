-- The calls of each recovery: what the directory is at each moment of them, and once they returned.
use Rattle.std.proofs.Common.{◌≡◌, ◌⊎◌, ℕ, [], ◌++◌, false, Result, Ok, Err, refl, sym, ◌∙◌, subst}
use Rattle.std.specs.Prelude.{is_ok, OnOk, IfOk}
use Rattle.nn_base.specs.declared.sub.Sub.TheVariants.{Current, Previous, PreviousTmp, RemovedTmp, FinalizedTmp, LastCheckpointTmp, PreviousCheckpoint}
use Rattle.nn_host.specs.Disk.{Disk, Reads, Call, RenameSub, RemoveSub, fresh_file, add_pending}
use Rattle.nn_host.specs.Moments.{State, IsLawful, disk_at}
use Rattle.nn_host.specs.Calls.{Called}
use Rattle.nn_host.specs.Runs.{OnlyAt, Looked}
use Rattle.nn_host.proofs.MakesLemmas.{Makes}
use Rattle.nn_host.proofs.WorkLemmas.{work_once, work_trans, work_weaker}
use Rattle.nn_state.specs.declared.state.StorageState.{StorageState}
use Rattle.nn_state.specs.declared.state.StorageState.TheVariants as state
use Rattle.nn_state.specs.Typed.{IsIn, FitsReady, FitsWithPrevious, FitsSettled}
use Rattle.nn_state.specs.declared.typed.Settled.{Settled}
use Rattle.nn_state.specs.Renaming.{put_under, IsPutting, WasPut}
use Rattle.nn_state.specs.Recovery.{SameSeat, HasServingVersion, KeepsSeat, IsRecovered, WasRecovered}
use Rattle.nn_state.proofs.LeftLemmas.{state_left}
use Rattle.nn_state.proofs.BackLemmas.{taken_recovered, taken_moment, taken_normal, taken_previous, returned_recovered, returned_moment, returned_normal, returned_previous, restored_recovered, restored_moment, restored_normal}
use Rattle.nn_state.proofs.CompleteLemmas.{upgraded_renamed, upgraded_recovered, upgraded_old, upgraded_new, upgraded_normal, replaced_recovered, replaced_moment, replaced_normal, rolled_recovered, rolled_old, rolled_part, rolled_ready, given_recovered, given_old, given_part, given_either, given_previous}

-- a state of the disk is one of what reads
as_read : (i : ℕ) (a : State) → IsLawful a → (state : StorageState) → IsIn state (disk_at a i) → IsIn state (a.reads i)
as_read i a lawful state fits = state_left (disk_at a i) (a.reads i) (lawful.reads i) state fits

was : {i : ℕ} {a b : State} {disk : Disk} {reads : Reads} → disk_at b i ≡ disk → b.reads i ≡ reads → IsRecovered (disk_at a i) disk → IsRecovered (a.reads i) reads → WasRecovered i a b
was {i} {a} disk_is reads_are disk reads = record { disk = subst (IsRecovered (disk_at a i)) (sym disk_is) disk; reads = subst (IsRecovered (a.reads i)) (sym reads_are) reads }

-- ---- a look behind it

module _ {told : Type 0} {i : ℕ} {a b c : State} where
  pub then_still : {P : Disk → Type 0} → OnlyAt told i a b P → OnlyAt told i b c (λ d. d ≡ disk_at b i) → OnlyAt told i a c P
  then_still {P} p q = work_trans p (work_weaker q (λ tells d same. subst P (sym same) (p.ends tells)))

  module _ (q : OnlyAt told i b c (λ d. d ≡ disk_at b i)) where
    pub then_was : {T E : Type 0} (result : Result T E) → (told → WasRecovered i a b) → Looked told i b c (is_ok result) → told → OnOk result (WasRecovered i a c)
    then_was {T} {E} result p looked tells = last result looked
      where
        last : (r : Result T E) → Looked told i b c (is_ok r) → OnOk r (WasRecovered i a c)
        last (Err e) looked = tt
        last (Ok v) looked = record {
          disk = subst (IsRecovered (disk_at a i)) (sym (q.ends tells)) (p tells).disk;
          reads = subst (IsRecovered (a.reads i)) (sym (looked.reads tells refl)) (p tells).reads;
        }

pub then_fits : {E told : Type 0} {i : ℕ} {b c : State} (result : Result Settled E) → OnlyAt told i b c (λ d. d ≡ disk_at b i) → told → IfOk result (λ it. FitsSettled it (disk_at b i)) → IfOk result (λ it. FitsSettled it (disk_at c i))
then_fits {E} {told} {i} {b} {c} result q tells fits = subst (λ (d : Disk). IfOk result (λ it. FitsSettled it d)) (sym (q.ends tells)) fits

module _ {told : Type 0} {i : ℕ} {a b : State} where
  -- a call of which each disk that it may make keeps the seat
  at_once : {T E : Type 0} {call : Call} {result : Result T E} → (told → SameSeat (disk_at a i) (disk_at a i)) → (told → (part : Disk) → Makes call (a.reads i) (disk_at a i) part → SameSeat (disk_at a i) part)
      → Called told i call a b result → OnlyAt told i a b (KeepsSeat (disk_at a i))
  at_once old new called = work_once called (λ tells versioned. old tells) (λ tells part made versioned. new tells part made)

  module _ (lawful : told → IsLawful a) (fits : told → IsIn state.CompleteUpgrade (disk_at a i)) where
    pub upgraded_work : {T E : Type 0} {result : Result T E} → Called told i (RenameSub PreviousTmp Previous) a b result → OnlyAt told i a b (KeepsSeat (disk_at a i))
    upgraded_work called = at_once (λ tells. upgraded_old (disk_at a i) (fits tells))
        (λ tells part made. subst (SameSeat (disk_at a i)) (sym (made ∙ upgraded_renamed (disk_at a i) (fits tells) fresh_file add_pending)) (upgraded_new (disk_at a i) (fits tells)))
        called

    module _ {T E : Type 0} {v : T} (called : Called {E = E} told i (RenameSub PreviousTmp Previous) a b (Ok v)) where
      upgraded_disk : told → disk_at b i ≡ put_under PreviousTmp Previous (disk_at a i)
      upgraded_disk tells = (called.effect tells).ok.disk ∙ upgraded_renamed (disk_at a i) (fits tells) fresh_file add_pending

      pub upgraded_was : told → WasRecovered i a b
      upgraded_was tells =
          let reads = as_read i a (lawful tells) state.CompleteUpgrade (fits tells) in
          was (upgraded_disk tells) ((called.effect tells).ok.reads ∙ upgraded_renamed (a.reads i) reads [] (λ old more. old ++ more)) (upgraded_recovered (disk_at a i) (fits tells)) (upgraded_recovered (a.reads i) reads)

      pub upgraded_fits : told → FitsWithPrevious (disk_at b i)
      upgraded_fits tells = subst FitsWithPrevious (sym (upgraded_disk tells)) (record { normal = upgraded_normal (disk_at a i) (fits tells); something_saved = refl })

  module _ (lawful : told → IsLawful a) (fits : told → IsIn state.CompleteRollback (disk_at a i)) where
    pub rolled_work : {T E : Type 0} {result : Result T E} → Called told i (RemoveSub RemovedTmp) a b result → OnlyAt told i a b (KeepsSeat (disk_at a i))
    rolled_work called = at_once (λ tells. rolled_old (disk_at a i) (fits tells)) (λ tells part made. rolled_part (disk_at a i) (fits tells) part made) called

    pub rolled_was : {T E : Type 0} {v : T} → Called {E = E} told i (RemoveSub RemovedTmp) a b (Ok v) → told → WasRecovered i a b
    rolled_was called tells =
        was ((called.effect tells).ok.disk) ((called.effect tells).ok.reads) (rolled_recovered (disk_at a i) (fits tells)) (rolled_recovered (a.reads i) (as_read i a (lawful tells) state.CompleteRollback (fits tells)))

    pub rolled_fits : {T E : Type 0} {v : T} → Called {E = E} told i (RemoveSub RemovedTmp) a b (Ok v) → told → FitsReady (disk_at b i)
    rolled_fits called tells = subst FitsReady (sym (called.effect tells).ok.disk) (rolled_ready (disk_at a i) (fits tells))

  module _ (lawful : told → IsLawful a) (fits : told → IsIn state.CompleteFinalize (disk_at a i)) where
    pub given_work : {T E : Type 0} {result : Result T E} → Called told i (RemoveSub FinalizedTmp) a b result → OnlyAt told i a b (KeepsSeat (disk_at a i))
    given_work called = at_once (λ tells. given_old (disk_at a i) (fits tells)) (λ tells part made. given_part (disk_at a i) (fits tells) part made) called

    pub given_was : {T E : Type 0} {v : T} → Called {E = E} told i (RemoveSub FinalizedTmp) a b (Ok v) → told → WasRecovered i a b
    given_was called tells =
        was ((called.effect tells).ok.disk) ((called.effect tells).ok.reads) (given_recovered (disk_at a i) (fits tells)) (given_recovered (a.reads i) (as_read i a (lawful tells) state.CompleteFinalize (fits tells)))

    pub given_state : {T E : Type 0} {v : T} → Called {E = E} told i (RemoveSub FinalizedTmp) a b (Ok v) → told → IsIn state.Normal (disk_at b i) ⊎ IsIn state.NotFormatted (disk_at b i)
    given_state called tells = subst (λ (d : Disk). IsIn state.Normal d ⊎ IsIn state.NotFormatted d) (sym (called.effect tells).ok.disk) (given_either (disk_at a i) (fits tells))

    pub given_none : {T E : Type 0} {v : T} → Called {E = E} told i (RemoveSub FinalizedTmp) a b (Ok v) → told → (disk_at b i).has Previous ≡ false
    given_none called tells = subst (λ (d : Disk). d.has Previous ≡ false) (sym (called.effect tells).ok.disk) (given_previous (disk_at a i) (fits tells))

  -- ---- a folder that takes the name of another one

  module _ (lawful : told → IsLawful a) (fits : told → IsIn state.RecoverUpgrade (disk_at a i)) where
    pub taken_work : OnlyAt told i a b (IsPutting PreviousTmp Current (disk_at a i)) → OnlyAt told i a b (KeepsSeat (disk_at a i))
    taken_work p = work_weaker p (λ tells d is. taken_moment (disk_at a i) (fits tells) d is)

    pub taken_was : (told → WasPut PreviousTmp Current i a b) → told → WasRecovered i a b
    taken_was put tells = was (put tells).disk (put tells).reads (taken_recovered (disk_at a i) (fits tells)) (taken_recovered (a.reads i) (as_read i a (lawful tells) state.RecoverUpgrade (fits tells)))

    pub taken_fits : (told → WasPut PreviousTmp Current i a b) → told → HasServingVersion (disk_at a i) → FitsReady (disk_at b i)
    taken_fits put tells versioned = subst FitsReady (sym (put tells).disk) (record { normal = taken_normal (disk_at a i) (fits tells) versioned; nothing_saved = taken_previous (disk_at a i) (fits tells) })

  module _ (lawful : told → IsLawful a) (fits : told → IsIn state.RecoverRollback (disk_at a i)) where
    pub returned_work : OnlyAt told i a b (IsPutting RemovedTmp Current (disk_at a i)) → OnlyAt told i a b (KeepsSeat (disk_at a i))
    returned_work p = work_weaker p (λ tells d is. returned_moment (disk_at a i) (fits tells) d is)

    pub returned_was : (told → WasPut RemovedTmp Current i a b) → told → WasRecovered i a b
    returned_was put tells = was (put tells).disk (put tells).reads (returned_recovered (disk_at a i) (fits tells)) (returned_recovered (a.reads i) (as_read i a (lawful tells) state.RecoverRollback (fits tells)))

    pub returned_fits : (told → WasPut RemovedTmp Current i a b) → told → HasServingVersion (disk_at a i) → FitsWithPrevious (disk_at b i)
    returned_fits put tells versioned = subst FitsWithPrevious (sym (put tells).disk) (record { normal = returned_normal (disk_at a i) (fits tells) versioned; something_saved = returned_previous (disk_at a i) (fits tells) })

  module _ (lawful : told → IsLawful a) (fits : told → IsIn state.RecoverCheckpoint (disk_at a i)) where
    pub restored_work : OnlyAt told i a b (IsPutting LastCheckpointTmp Current (disk_at a i)) → OnlyAt told i a b (KeepsSeat (disk_at a i))
    restored_work p = work_weaker p (λ tells d is. restored_moment (disk_at a i) (fits tells) d is)

    pub restored_was : (told → WasPut LastCheckpointTmp Current i a b) → told → WasRecovered i a b
    restored_was put tells = was (put tells).disk (put tells).reads (restored_recovered (disk_at a i) (fits tells)) (restored_recovered (a.reads i) (as_read i a (lawful tells) state.RecoverCheckpoint (fits tells)))

    pub restored_state : (told → WasPut LastCheckpointTmp Current i a b) → told → HasServingVersion (disk_at a i) → IsIn state.Normal (disk_at b i)
    restored_state put tells versioned = subst (IsIn state.Normal) (sym (put tells).disk) (restored_normal (disk_at a i) (fits tells) versioned)

  module _ (lawful : told → IsLawful a) (fits : told → IsIn state.CompleteCheckpoint (disk_at a i)) where
    pub replaced_work : OnlyAt told i a b (IsPutting LastCheckpointTmp PreviousCheckpoint (disk_at a i)) → OnlyAt told i a b (KeepsSeat (disk_at a i))
    replaced_work p = work_weaker p (λ tells d is. replaced_moment (disk_at a i) (fits tells) d is)

    pub replaced_was : (told → WasPut LastCheckpointTmp PreviousCheckpoint i a b) → told → WasRecovered i a b
    replaced_was put tells = was (put tells).disk (put tells).reads (replaced_recovered (disk_at a i) (fits tells)) (replaced_recovered (a.reads i) (as_read i a (lawful tells) state.CompleteCheckpoint (fits tells)))

    pub replaced_state : (told → WasPut LastCheckpointTmp PreviousCheckpoint i a b) → told → IsIn state.Normal (disk_at b i)
    replaced_state put tells = subst (IsIn state.Normal) (sym (put tells).disk) (replaced_normal (disk_at a i) (fits tells))
