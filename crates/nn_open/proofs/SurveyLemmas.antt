-- From directory to directory: what a survey has found so far, and what it says of all of them.
use Rattle.std.proofs.Common.{◌≡◌, ◌⊎◌, inl, inr, ⊎_elim, ℕ, ◌+◌, ◌<◌, Option, None, Result, Ok, Err, refl, sym, ◌∙◌, ap, subst, arith, add-one}
use Rattle.std.proofs.lemmas.Bool.Decides.{eqb_tells}
use Rattle.nn_host.specs.Disk.{Disk, Reads, Settle, disk_after}
use Rattle.nn_host.specs.Moments.{State, Dir, disk_at, faults_at}
use Rattle.nn_host.specs.Runs.{OnlyAt, SameCounts, Unspoken}
use Rattle.nn_host.proofs.RunsLemmas.{throughout_refl, counts_refl, counts_trans, counts_once, unspoken_refl, unspoken_trans}
use Rattle.nn_host.proofs.WorkLemmas.{each_dir_work, unspoken_work}
use Rattle.nn_state.specs.declared.state.StorageState.{StorageState}
use Rattle.nn_state.specs.declared.state.StorageState.TheVariants.{NonExistent, NotFormatted, Normal, CompleteUpgrade, RecoverUpgrade, CompleteFinalize, CompleteRollback, RecoverRollback, CompleteCheckpoint, RecoverCheckpoint}
use Rattle.nn_state.specs.declared.state.Why.{Why}
use Rattle.nn_state.specs.Table.{seven_of, table_of}
use Rattle.nn_pick.specs.declared.refusal.Refusal.{Refusal}
use Rattle.nn_pick.specs.Refused.{unformattable, or_else}
use Rattle.nn_pick.proofs.OneImageLemmas.{each_unrefused}
use Rattle.nn_open.specs.Answers.{first_unformattable, settled_disk, AllFresh, EachAsBefore}

-- settling a disk once more changes nothing of it
resettled : (r : Reads) (d e : Disk) → (e ≡ d) ⊎ (e ≡ disk_after Settle r d) → disk_after Settle r e ≡ disk_after Settle r d
resettled r d e is = ⊎_elim (λ same. ap (λ (x : Disk). disk_after Settle r x) same) (λ settled. ap (λ (x : Disk). disk_after Settle r x) settled) is

-- the first k directories were settled and looked at
pub record Surveyed (told : Type 0) (k : ℕ) (start now : State) (first : Option Refusal) : Type 0 where
  pub run : EachAsBefore told start now
  pub quiet : Unspoken told start now
  pub counts : SameCounts start now
  pub reads : told → (j : ℕ) → now.reads j ≡ start.reads j
  pub settled : told → (j : ℕ) → j < k → disk_at now j ≡ settled_disk start j
  pub lowest : told → first ≡ first_unformattable start.reads k

pub before_refl : {told : Type 0} {a : State} → EachAsBefore told a a
before_refl = throughout_refl (λ tells. record { at = λ j. inl refl })

pub surveyed_none : {told : Type 0} {a : State} → Surveyed told 0 a a None
surveyed_none = record {
  run = before_refl;
  quiet = unspoken_refl;
  counts = counts_refl;
  reads = λ tells j. refl;
  settled = λ tells j below. absurd (omega (arith, below));
  lowest = λ tells. refl;
}

module _ {told : Type 0} {k : ℕ} {a b c : State} {first : Option Refusal} (so_far : Surveyed told k a b first) (one : OnlyAt told k b c (λ d. (d ≡ disk_at b k) ⊎ (d ≡ settled_disk b k))) where
  settled_as : told → settled_disk b k ≡ settled_disk a k
  settled_as tells = (λ i. disk_after Settle (so_far.reads tells k i) (disk_at b k)) ∙ resettled (a.reads k) (disk_at a k) (disk_at b k) ((so_far.run.ends tells).at k)

  pub surveyed_run : EachAsBefore told a c
  surveyed_run = each_dir_work so_far.run one (λ tells d is le. ⊎_elim
      (λ same. ⊎_elim (λ before. inl (same ∙ before)) (λ after. inr (same ∙ after)) ((so_far.run.ends tells).at k))
      (λ settled. inr (settled ∙ settled_as tells))
      is)

  pub surveyed_quiet : Unspoken told a c
  surveyed_quiet = unspoken_trans so_far.quiet (unspoken_work one)

  pub surveyed_more : (refusal later : Option Refusal) → faults_at c k ≡ faults_at b k → (told → c.reads k ≡ b.reads k) → (told → disk_at c k ≡ settled_disk b k)
      → (told → refusal ≡ unformattable k (table_of (seven_of (b.reads k)))) → later ≡ or_else first refusal → Surveyed told (k + 1) a c later
  surveyed_more refusal later counted here there value next = record {
    run = surveyed_run;
    quiet = surveyed_quiet;
    counts = counts_trans so_far.counts (counts_once one.frame counted);
    reads = λ tells j. read tells j ∙ so_far.reads tells j;
    settled = λ tells j below. disk tells j below;
    lowest = λ tells. rw (add-one k) (next ∙ (λ i. or_else (so_far.lowest tells i) ((value tells ∙ ap (λ (r : Reads). unformattable k (table_of (seven_of r))) (so_far.reads tells k)) i)));
  }
    where
      read : told → (j : ℕ) → c.reads j ≡ b.reads j
      read tells j = elim (eqb_tells j k) [
        | inl is ↦ subst (λ (x : ℕ). c.reads x ≡ b.reads x) (sym is.1) (here tells)
        | inr differs ↦ one.frame.reads j differs.1
      ]

      disk : told → (j : ℕ) → j < k + 1 → disk_at c j ≡ settled_disk a j
      disk tells j below = elim (eqb_tells j k) [
        | inl is ↦ subst (λ (x : ℕ). disk_at c x ≡ settled_disk a x) (sym is.1) (there tells ∙ settled_as tells)
        | inr differs ↦ ap (λ (d : Dir). d.disk) (one.frame.now.dirs j differs.1) ∙ so_far.settled tells j (omega (arith, below, differs.1))
      ]

-- where none is refused, each is NOT_FORMATTED

formattable : (i : ℕ) (found : Result StorageState Why) → unformattable i found ≡ None → found ≡ Ok NotFormatted
formattable i (Ok NotFormatted) e = refl
formattable i (Ok NonExistent) e = cc
formattable i (Ok Normal) e = cc
formattable i (Ok CompleteUpgrade) e = cc
formattable i (Ok RecoverUpgrade) e = cc
formattable i (Ok CompleteFinalize) e = cc
formattable i (Ok CompleteRollback) e = cc
formattable i (Ok RecoverRollback) e = cc
formattable i (Ok CompleteCheckpoint) e = cc
formattable i (Ok RecoverCheckpoint) e = cc
formattable i (Err why) e = cc

pub unrefused : (s : State) → first_unformattable s.reads s.count ≡ None → AllFresh s
unrefused s e i below = formattable i (table_of (seven_of (s.reads i))) (each_unrefused (λ j. unformattable j (table_of (seven_of (s.reads j)))) s.count e i below)
