-- A directory that was looked at, or emptied, and no more: what was answered, and how all stand.
use Rattle.std.proofs.Common.{◌≡◌, inl, inr, ⊎_elim, ℕ, true, false, Result, Ok, Err, refl, sym, ◌∙◌, ap, subst, arith}
use Rattle.std.proofs.lemmas.Bool.{cases_eq}
use Rattle.nn_base.specs.DirSets.{Members, has}
use Rattle.nn_host.specs.Moments.{State, disk_at, faults_at}
use Rattle.nn_host.specs.Calls.{next_count}
use Rattle.nn_host.specs.Runs.{OnlyAt, Looked}
use Rattle.nn_host.proofs.RunsLemmas.{counts_once, unspoken_refl, unspoken_trans, throughout_refl}
use Rattle.nn_host.proofs.WorkLemmas.{work_weaker, unspoken_work}
use Rattle.nn_marks.specs.declared.version.Version.{Version}
use Rattle.nn_state.specs.declared.typed.Found.{Found}
use Rattle.nn_tree.specs.Namespace.{Namespace}
use Rattle.nn_journal.specs.declared.journal.JournalSet.{JournalSet}
use Rattle.nn_ckpt.specs.declared.fault.RunFault.{RunFault}
use Rattle.nn_ckpt.specs.declared.fault.RunFault.TheVariants.{NoneLeft, Memory}
use Rattle.nn_restore.specs.declared.emptying.Unfit.{Unfit}
use Rattle.nn_restore.specs.declared.restoring.Restored.{Restored}
use Rattle.nn_restore.specs.declared.restoring.Restored.TheVariants.{TakenBack, Missing, Inconsistent, Failed}
use Rattle.nn_restore.specs.Emptying.{WasLookedAt, IsEmptying}
use Rattle.nn_restore.specs.Restored.{IsUnchanged, IsAnswered, IsRestorable, IsCountedOf, Restores}
use Rattle.nn_restore.proofs.AsideLemmas.{aside, still_imaged, work_beside, stays_other, counted_then, beside_trans}
use Rattle.nn_restore.proofs.BehindLemmas.{emptying_stays}
use Rattle.nn_restore.proofs.PartsLemmas.{empties_refl, restored_then}

-- ---- one that is live

pub idle_restores : {told : Type 0} {version : Version} {ns : Namespace} (i : ℕ) (journal : JournalSet) (a : State) (result : Result Restored RunFault) → Restores told version ns i journal journal a a result
idle_restores i journal a result tells list stage is same ids layout = record { comes = inl (refl, empties_refl i a); stands = (stage, is) }

pub idle_counted : {told : Type 0} (i : ℕ) (live : Members) (a : State) → has live i ≡ true → IsCountedOf told i live live a a (Ok TakenBack)
idle_counted i live a there = record {
  own = (there, refl);
  others = λ j ne. inl (record { same_live = refl; faults = refl });
  left = throughout_refl (λ tells. record { grown = λ j. omega arith; others = λ j ne out. refl; failed = λ j ne rose. refl });
  quiet = unspoken_refl;
}

-- ---- one that was looked at

pub looked_by : {told : Type 0} {i : ℕ} {a b : State} {fault : Unfit} (expected : Unfit) → fault ≡ expected → WasLookedAt {T = Found} told i a b (Err fault) → WasLookedAt {T = Found} told i a b (Err expected)
looked_by {told} {i} {a} {b} expected is = subst (λ (e : Unfit). WasLookedAt {T = Found} told i a b (Err e)) is

pub unchanged_by : {told : Type 0} {i : ℕ} {a b : State} (live : Members) → Looked told i a b true → IsUnchanged told live live a b
unchanged_by {i = i} {a = a} {b = b} live looked = record {
  same_live = refl;
  counts = counts_once looked.frame looked.counted;
  disks = looked.untouched;
  reads = λ tells j. elim (cases_eq j i) [
    | inl same ↦ subst (λ (x : ℕ). b.reads x ≡ a.reads x) (sym same) (looked.reads tells refl)
    | inr differs ↦ looked.frame.reads j differs
  ];
}

pub looking_empties : {told : Type 0} {i : ℕ} {a b : State} → OnlyAt told i a b (λ d. d ≡ disk_at a i) → OnlyAt told i a b (IsEmptying (disk_at a i))
looking_empties work = work_weaker work (λ t d same. inl same)

-- ---- one that was emptied, or on the way there

module _ {told : Type 0} {i : ℕ} {a b : State} (work : OnlyAt told i a b (IsEmptying (disk_at a i))) where
  pub emptied_restores : {version : Version} {ns : Namespace} (journal : JournalSet) (result : Result Restored RunFault) → has journal.live i ≡ false → Restores told version ns i journal journal a b result
  emptied_restores {version = version} journal result out tells list stage is same ids layout = record {
    comes = inl (refl, aside (work_weaker work (λ t d it. emptying_stays (disk_at a i) d it)) tells);
    stands = (stage, still_imaged work version list stage journal out is);
  }

  pub emptied_counted : (live : Members) (result : Result Restored RunFault) → IsAnswered told i live live a b result → IsCountedOf told i live live a b result
  emptied_counted live result own = record { own = own; others = λ j ne. stays_other work live live j ne refl; left = work_beside work live; quiet = unspoken_work work }

-- ---- one that was emptied, and then taken back

-- a call that didn't fail before changes no answer but the table's
own_then : (told : Type 0) (i : ℕ) (live live_after : Members) (a b c : State) → faults_at b i ≡ faults_at a i → (result : Result Restored RunFault) → IsRestorable result → IsAnswered told i live live_after b c result → IsAnswered told i live live_after a c result
own_then told i live live_after a b c same (Ok TakenBack) restorable own = (own.0, own.1 ∙ same)
own_then told i live live_after a b c same (Ok Missing) restorable own = absurd (restorable.missing refl)
own_then told i live live_after a b c same (Ok Inconsistent) restorable own = absurd (restorable.inconsistent refl)
own_then told i live live_after a b c same (Ok Failed) restorable own = (own.0, own.1, own.2 ∙ ap next_count same)
own_then told i live live_after a b c same (Err NoneLeft) restorable own = (own.0, own.1, ⊎_elim (λ still. inl (still ∙ same)) (λ rose. inr (rose ∙ ap next_count same)) own.2)
own_then told i live live_after a b c same (Err Memory) restorable own = (own.0, own.1, own.2 ∙ same)

module _ {told : Type 0} {i : ℕ} {a b c : State} (work : OnlyAt told i a b (IsEmptying (disk_at a i))) where
  pub restores_then : {version : Version} {ns : Namespace} (journal after : JournalSet) (result : Result Restored RunFault) → has journal.live i ≡ false → Restores told version ns i journal after b c result → Restores told version ns i journal after a c result
  restores_then {version = version} journal after result out then tells list stage is same ids layout =
      restored_then i (aside (work_weaker work (λ t d it. emptying_stays (disk_at a i) d it)) tells) version list journal after result out (then tells list stage (still_imaged work version list stage journal out is) same ids layout)

  pub counted_behind : (live live_after : Members) (result : Result Restored RunFault) → faults_at b i ≡ faults_at a i → IsRestorable result → IsCountedOf told i live live_after b c result → IsCountedOf told i live live_after a c result
  counted_behind live live_after result same restorable then = record {
    own = own_then told i live live_after a b c same result restorable then.own;
    others = λ j ne. counted_then j (stays_other work live live j ne refl) (then.others j ne);
    left = beside_trans (λ j ne. stays_other work live live j ne refl) (work_beside work live) then.left;
    quiet = unspoken_trans (unspoken_work work) then.quiet;
  }
