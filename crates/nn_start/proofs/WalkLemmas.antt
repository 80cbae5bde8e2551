-- From directory to directory: those that have something to be done have had their turn so far, and the others are left alone.
use Rattle.std.proofs.Common.{◌≡◌, ◌≢◌, inl, inr, ℕ, ◌+◌, ◌<◌, ◌≤◌, Bool, true, false, refl, sym, ◌∙◌, ap, subst, arith, true≢false}
use Rattle.std.proofs.lemmas.Bool.Decides.{eqb_tells}
use Rattle.nn_host.specs.Disk.{Disk}
use Rattle.nn_host.specs.Moments.{Dir, State, faults_at}
use Rattle.nn_host.specs.Calls.{next_count}
use Rattle.nn_host.specs.Runs.{OnlyAt, Throughout, EachDir, SameCounts, RoseAt, Unspoken}
use Rattle.nn_host.proofs.RunsLemmas.{throughout_refl, counts_refl, counts_trans, counts_once, unspoken_refl, unspoken_trans, rose_last}
use Rattle.nn_host.proofs.WorkLemmas.{each_dir_work, unspoken_work}
use Rattle.nn_start.specs.Bringing.{IsAsItWas}

pub alone_refl : {a : State} {j : ℕ} → IsAsItWas j a a
alone_refl = record { dir = refl; reads = refl }

pub alone_then : {a b c : State} {j : ℕ} → IsAsItWas j a b → IsAsItWas j b c → IsAsItWas j a c
alone_then p q = record { dir = q.dir ∙ p.dir; reads = q.reads ∙ p.reads }

-- Whatever is claimed of the start, each moment has what it claims of it, and each that had its turn is as it claims.
pub record Walk (told W : Type 0) (K : W → ℕ → Dir → Type 0) (Done : W → ℕ → State → Type 0) (todo : ℕ → Bool) (k : ℕ) (start now : State) : Type 0 where
  pub quiet : Unspoken told start now
  pub counts : SameCounts start now
  pub count : now.count ≡ start.count
  pub left : (j : ℕ) → todo j ≡ false → IsAsItWas j start now
  pub later : (j : ℕ) → k ≤ j → IsAsItWas j start now
  pub run : (w : W) → Throughout told start now (EachDir (K w))
  pub done : (w : W) → told → (j : ℕ) → j < k → todo j ≡ true → Done w j now

module _ {told W : Type 0} {K : W → ℕ → Dir → Type 0} {Done : W → ℕ → State → Type 0} {todo : ℕ → Bool} where
  pub walk_none : {a : State} → ((w : W) → told → (j : ℕ) → K w j (a.now.dirs j)) → Walk told W K Done todo 0 a a
  walk_none first = record {
    quiet = unspoken_refl;
    counts = counts_refl;
    count = refl;
    left = λ j none. alone_refl;
    later = λ j le. alone_refl;
    run = λ w. throughout_refl (λ tells. record { at = λ j. first w tells j });
    done = λ w tells j below. absurd (omega (arith, below));
  }

  -- nothing is to be done in this one
  pub walk_skip : {k : ℕ} {a b : State} → todo k ≡ false → Walk told W K Done todo k a b → Walk told W K Done todo (k + 1) a b
  walk_skip {k} {a} {b} none walk = record {
    quiet = walk.quiet;
    counts = walk.counts;
    count = walk.count;
    left = walk.left;
    later = λ j le. walk.later j (omega (arith, le));
    run = walk.run;
    done = λ w tells j below is. elim (eqb_tells j k) [
      | inl same ↦ absurd (true≢false (sym is ∙ ap todo same.1 ∙ none))
      | inr differs ↦ walk.done w tells j (omega (arith, below, differs.1)) is
    ];
  }

  module _ {k : ℕ} {a b c : State} (walk : Walk told W K Done todo k a b) (P : W → Disk → Type 0) (touched : OnlyAt told k b c (λ d. Unit {0})) (step : (w : W) → OnlyAt told k b c (P w)) (here : (w : W) → told → (d : Dir) → P w d.disk → K w k d) where
    pub walk_run : (w : W) → Throughout told a c (EachDir (K w))
    walk_run w = each_dir_work (walk.run w) (step w) (λ tells d is le. here w tells d is)

    pub walk_quiet : Unspoken told a c
    walk_quiet = unspoken_trans walk.quiet (unspoken_work touched)

    pub walk_rose : k < a.count → faults_at c k ≡ next_count (faults_at b k) → RoseAt k a c
    walk_rose below rose = rose_last walk.counts below touched.frame rose

    others : (j : ℕ) → j ≢ k → IsAsItWas j b c
    others j apart = record { dir = touched.frame.now.dirs j apart; reads = touched.frame.reads j apart }

    pub walk_left : todo k ≡ true → (j : ℕ) → todo j ≡ false → IsAsItWas j a c
    walk_left some j none = alone_then (walk.left j none) (others j (λ same. true≢false (sym some ∙ ap todo (sym same) ∙ none)))

    -- something was done in this one
    pub walk_more : ((w : W) (j : ℕ) → IsAsItWas j b c → Done w j b → Done w j c) → todo k ≡ true → faults_at c k ≡ faults_at b k → ((w : W) → told → Done w k c) → Walk told W K Done todo (k + 1) a c
    walk_more moved some counted did = record {
      quiet = walk_quiet;
      counts = counts_trans walk.counts (counts_once touched.frame counted);
      count = touched.frame.count ∙ walk.count;
      left = walk_left some;
      later = λ j le. alone_then (walk.later j (omega (arith, le))) (others j (λ same. omega (arith, le, same)));
      run = walk_run;
      done = λ w tells j below is. elim (eqb_tells j k) [
        | inl same ↦ subst (λ (n : ℕ). Done w n c) (sym same.1) (did w tells)
        | inr differs ↦ moved w j (others j differs.1) (walk.done w tells j (omega (arith, below, differs.1)) is)
      ];
    }
