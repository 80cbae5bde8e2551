-- From directory to directory: which are made so far.
use Rattle.std.proofs.Common.{◌≡◌, inl, inr, ℕ, ◌+◌, ◌<◌, ◌≤◌, refl, sym, ◌∙◌, ap, subst, arith}
use Rattle.std.proofs.lemmas.Bool.Decides.{eqb_tells}
use Rattle.nn_host.specs.Moments.{State, Dir, disk_at, faults_at}
use Rattle.nn_host.specs.Runs.{OnlyAt, SameCounts, Unspoken}
use Rattle.nn_host.proofs.RunsLemmas.{throughout_refl, counts_refl, counts_trans, counts_once, unspoken_refl, unspoken_trans}
use Rattle.nn_host.proofs.WorkLemmas.{each_dir_work, unspoken_work}
use Rattle.nn_state.specs.Typed.{FitsFresh}
use Rattle.nn_marks.specs.declared.version.Version.{Version}
use Rattle.nn_open.specs.Formatted.{IsFormatted, FreshOrNew}
use Rattle.nn_open.specs.Answers.{EachFreshOrNew}

-- the first k directories are formatted, and the others as they were
pub record Made (told : Type 0) (version : Version) (k : ℕ) (start now : State) : Type 0 where
  pub run : EachFreshOrNew told version start now
  pub quiet : Unspoken told start now
  pub counts : SameCounts start now
  pub formatted : told → (j : ℕ) → j < k → IsFormatted version (disk_at now j)
  pub later : told → (j : ℕ) → k ≤ j → disk_at now j ≡ disk_at start j

pub made_none : {told : Type 0} {version : Version} {a : State} → (told → (j : ℕ) → j < a.count → FitsFresh (disk_at a j)) → Made told version 0 a a
made_none fresh = record {
  run = throughout_refl (λ tells. record { at = λ j below. inl (fresh tells j below) });
  quiet = unspoken_refl;
  counts = counts_refl;
  formatted = λ tells j below. absurd (omega (arith, below));
  later = λ tells j le. refl;
}

module _ {told : Type 0} {version : Version} {k : ℕ} {a b c : State} (so_far : Made told version k a b) (one : OnlyAt told k b c (FreshOrNew version)) where
  pub made_run : EachFreshOrNew told version a c
  made_run = each_dir_work so_far.run one (λ tells d is le below. is)

  pub made_quiet : Unspoken told a c
  made_quiet = unspoken_trans so_far.quiet (unspoken_work one)

  pub made_more : faults_at c k ≡ faults_at b k → (told → IsFormatted version (disk_at c k)) → Made told version (k + 1) a c
  made_more counted here = record {
    run = made_run;
    quiet = made_quiet;
    counts = counts_trans so_far.counts (counts_once one.frame counted);
    formatted = λ tells j below. elim (eqb_tells j k) [
      | inl is ↦ subst (λ (x : ℕ). IsFormatted version (disk_at c x)) (sym is.1) (here tells)
      | inr differs ↦ subst (λ (d : Dir). IsFormatted version d.disk) (sym (one.frame.now.dirs j differs.1)) (so_far.formatted tells j (omega (arith, below, differs.1)))
    ];
    later = λ tells j le. ap (λ (d : Dir). d.disk) (one.frame.now.dirs j (λ same. omega (arith, le, same))) ∙ so_far.later tells j (omega (arith, le));
  }
