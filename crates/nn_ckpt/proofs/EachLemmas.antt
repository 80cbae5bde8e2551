-- From one live directory to the next: in which something is done so far, and in which of them a call failed.
use Rattle.std.proofs.Common.{◌≡◌, ◌≢◌, inl, inr, ℕ, ◌+◌, ◌<◌, ◌≤◌, ◌==◌, ◌||◌, Bool, true, false, Err, if◌then◌else◌, refl, sym, ◌∙◌, ap, subst, arith}
use Rattle.std.proofs.lemmas.Bool.Decides.{eqb_tells}
use Rattle.nn_base.specs.DirSets.{Members, has}
use Rattle.nn_base.proofs.DirSetLemmas.{member_below}
use Rattle.nn_host.specs.Disk.{Disk, Reads}
use Rattle.nn_host.specs.Moments.{State, Moment, Dir, SameBut, disk_at, faults_at}
use Rattle.nn_host.specs.Calls.{next_count}
use Rattle.nn_host.specs.Runs.{OnlyAt, Throughout, EachDir, Unspoken}
use Rattle.nn_host.proofs.RunsLemmas.{throughout_refl, throughout_trans, throughout_weaker, throughout_both, unspoken_refl, unspoken_trans}
use Rattle.nn_host.proofs.WorkLemmas.{each_dir_work, throughout_work, unspoken_work}
use Rattle.nn_small.specs.Failure.{EndsByFailure}
use Rattle.nn_remake.specs.declared.fault.MakeFault.{MakeFault}
use Rattle.nn_remake.specs.declared.fault.MakeFault.TheVariants.{Failed, Memory}
use Rattle.nn_remake.specs.Counts.{IsCountedBy}
use Rattle.nn_journal.specs.Among.{IsLeftAlone, LeavesAlone}
use Rattle.nn_ckpt.specs.Each.{IsDoing, DoneEach}

-- why it failed

by_failure : (i : ℕ) (a b : State) (fault : MakeFault) → fault ≡ Failed → IsCountedBy {T = Unit {0}} i a b (Err fault) → faults_at b i ≡ next_count (faults_at a i)
by_failure i a b fault is counted = subst (λ (f : MakeFault). IsCountedBy {T = Unit {0}} i a b (Err f)) is counted

by_memory : (i : ℕ) (a b : State) (fault : MakeFault) → fault ≡ Memory → IsCountedBy {T = Unit {0}} i a b (Err fault) → faults_at b i ≡ faults_at a i
by_memory i a b fault is counted = subst (λ (f : MakeFault). IsCountedBy {T = Unit {0}} i a b (Err f)) is counted

-- it is a fact of how this directory stands and reads, before and after
abbrev pub IsOfDir : (ℕ → State → State → Type 0) → Type 0
IsOfDir D = (j : ℕ) (a b a2 b2 : State) → a2.now.dirs j ≡ a.now.dirs j → a2.reads j ≡ a.reads j → b2.now.dirs j ≡ b.now.dirs j → b2.reads j ≡ b.reads j → D j a b → D j a2 b2

-- the first k directories were gone over
pub record Doing (told : Type 0) (P : Reads → Disk → Disk → Type 0) (D : ℕ → State → State → Type 0) (live failed : Members) (k : ℕ) (a b : State) : Type 0 where
  pub among : (j : ℕ) → has failed j ≡ true → has live j ≡ true
  pub ahead : (j : ℕ) → k ≤ j → has failed j ≡ false
  pub counted : (j : ℕ) → faults_at b j ≡ (if has failed j then next_count (faults_at a j) else faults_at a j)
  pub any_moment : Throughout told a b (EachDir (IsDoing P live a))
  pub done : told → (j : ℕ) → j < k → has live j ≡ true → has failed j ≡ false → D j a b
  pub later : (j : ℕ) → k ≤ j → b.now.dirs j ≡ a.now.dirs j
  pub reads : (j : ℕ) → k ≤ j → b.reads j ≡ a.reads j
  pub count : b.count ≡ a.count
  pub left : LeavesAlone told live a b
  pub quiet : Unspoken told a b

pub doing_begins : {told : Type 0} {P : Reads → Disk → Disk → Type 0} {D : ℕ → State → State → Type 0} {live failed : Members} {a : State} → ((r : Reads) (d : Disk) → P r d d) → ((j : ℕ) → has failed j ≡ false) → Doing told P D live failed 0 a a
doing_begins {a = a} nothing none = record {
  among = λ j there. absurd (let apart = sym (none j) ∙ there in cc);
  ahead = λ j le. none j;
  counted = λ j. sym (ap (λ (x : Bool). if x then next_count (faults_at a j) else faults_at a j) (none j));
  any_moment = throughout_refl (λ tells. record { at = λ j. record { doing = λ in_it. nothing (a.reads j) (disk_at a j); same = λ out. refl } });
  done = λ tells j lt. absurd (omega (arith, lt));
  later = λ j le. refl;
  reads = λ j le. refl;
  count = refl;
  left = throughout_refl (λ tells. record { grown = λ j. omega arith; others = λ j out. refl; failed = λ j rose. refl });
  quiet = unspoken_refl;
}

module _ {told : Type 0} {P : Reads → Disk → Disk → Type 0} {D : ℕ → State → State → Type 0} {live failed : Members} {k : ℕ} {a b : State} (so_far : Doing told P D live failed k a b) where
  -- a directory that isn't live
  pub doing_past : has live k ≡ false → Doing told P D live failed (k + 1) a b
  doing_past out = record {
    among = so_far.among;
    ahead = λ j le. so_far.ahead j (omega (arith, le));
    counted = so_far.counted;
    any_moment = so_far.any_moment;
    done = λ tells j lt in_it whole. elim (eqb_tells j k) [
      | inl is ↦ absurd (let apart = sym out ∙ ap (has live) (sym is.1) ∙ in_it in cc)
      | inr differs ↦ (let ne = differs.1 in so_far.done tells j (grind (arith, lt, ne)) in_it whole)
    ];
    later = λ j le. so_far.later j (omega (arith, le));
    reads = λ j le. so_far.reads j (omega (arith, le));
    count = so_far.count;
    left = so_far.left;
    quiet = so_far.quiet;
  }

  module _ {c : State} (in_it : has live k ≡ true) (work : OnlyAt told k b c (P (b.reads k) (disk_at b k))) (fails : EndsByFailure told k b c) where
    others : (j : ℕ) → j ≢ k → c.now.dirs j ≡ b.now.dirs j
    others j ne = work.frame.now.dirs j ne

    here : b.now.dirs k ≡ a.now.dirs k
    here = so_far.later k (omega arith)

    doing_run : Throughout told a c (EachDir (IsDoing P live a))
    doing_run = each_dir_work so_far.any_moment work (λ tells d p counted. record {
      doing = λ member. subst (λ (r : Reads). P r (disk_at a k) d.disk) (so_far.reads k (omega arith)) (subst (λ (x : Dir). P (b.reads k) x.disk d.disk) here p);
      same = λ out. absurd (let apart = sym out ∙ in_it in cc);
    })

    -- what was left alone so far still is
    left_before : told → (m : Moment) → IsLeftAlone live a b m → IsLeftAlone live a c m
    left_before tells m p = record {
      grown = p.grown;
      others = p.others;
      failed = λ j rose. elim (eqb_tells j k) [
        | inl is ↦ (let same : j ≡ k = is.1 in
            absurd (omega (arith, rose, ap (λ (d : Dir). d.faults) (p.failed j rose), ap (λ (d : Dir). d.faults) (so_far.later j (omega (arith, same))))))
        | inr differs ↦ p.failed j rose ∙ sym (others j differs.1)
      ];
    }

    left_here : told → (m : Moment) → SameBut k b.now m → faults_at b k ≤ (m.dirs k).faults → (faults_at b k < (m.dirs k).faults → m.dirs k ≡ c.now.dirs k) → IsLeftAlone live a c m
    left_here tells m same counted failing = record {
      grown = λ j. elim (eqb_tells j k) [
        | inl is ↦ subst (λ (x : ℕ). faults_at a x ≤ (m.dirs x).faults) (sym is.1) (omega (arith, counted, (so_far.left.ends tells).grown k))
        | inr differs ↦ omega (arith, ap (λ (d : Dir). d.faults) (same.dirs j differs.1), (so_far.left.ends tells).grown j)
      ];
      others = λ j out. same.dirs j (λ e. let apart = sym out ∙ ap (has live) e ∙ in_it in cc) ∙ (so_far.left.ends tells).others j out;
      failed = λ j rose. elim (eqb_tells j k) [
        | inl is ↦ subst (λ (x : ℕ). m.dirs x ≡ c.now.dirs x) (sym is.1) (failing (omega (arith, subst (λ (x : ℕ). faults_at a x < (m.dirs x).faults) is.1 rose, ap (λ (d : Dir). d.faults) here)))
        | inr differs ↦ same.dirs j differs.1 ∙ sym (others j differs.1)
      ];
    }

    doing_left : LeavesAlone told live a c
    doing_left = throughout_trans (throughout_weaker so_far.left left_before)
        (throughout_weaker (throughout_both (throughout_both (throughout_work work (λ tells m is. is.others)) (throughout_work work (λ tells m is. is.counted))) fails) (λ tells m is. left_here tells m is.0.0 is.0.1 is.1))

    doing_quiet : Unspoken told a c
    doing_quiet = unspoken_trans so_far.quiet (unspoken_work work)

    count_other : (more : Members) (j : ℕ) → j ≢ k → has more j ≡ has failed j → faults_at c j ≡ (if has more j then next_count (faults_at a j) else faults_at a j)
    count_other more j ne same = ap (λ (d : Dir). d.faults) (others j ne) ∙ so_far.counted j ∙ ap (λ (x : Bool). if x then next_count (faults_at a j) else faults_at a j) (sym same)

    count_same : faults_at c k ≡ faults_at b k → (j : ℕ) → faults_at c j ≡ (if has failed j then next_count (faults_at a j) else faults_at a j)
    count_same faults j = elim (eqb_tells j k) [
      | inl is ↦ subst (λ (x : ℕ). faults_at c x ≡ (if has failed x then next_count (faults_at a x) else faults_at a x)) (sym is.1) (faults ∙ so_far.counted k)
      | inr differs ↦ count_other failed j differs.1 refl
    ]

    -- there was no memory for it
    pub doing_stops : (fault : MakeFault) → fault ≡ Memory → IsCountedBy {T = Unit {0}} k b c (Err fault) → DoneEach told P live failed a c
    doing_stops fault is counted = record { among = so_far.among; counted = count_same (by_memory k b c fault is counted); any_moment = doing_run; left = doing_left; quiet = doing_quiet; count = work.frame.count ∙ so_far.count }

    later_on : (j : ℕ) → k + 1 ≤ j → c.now.dirs j ≡ a.now.dirs j
    later_on j le = others j (λ e. let same : j ≡ k = e in omega (arith, le, same)) ∙ so_far.later j (omega (arith, le))

    reads_on : (j : ℕ) → k + 1 ≤ j → c.reads j ≡ a.reads j
    reads_on j le = work.frame.reads j (λ e. let same : j ≡ k = e in omega (arith, le, same)) ∙ so_far.reads j (omega (arith, le))

    module _ (of_dir : IsOfDir D) where
      done_before : told → (j : ℕ) → j ≢ k → j < k + 1 → has live j ≡ true → has failed j ≡ false → D j a c
      done_before tells j ne lt member whole = of_dir j a b a c refl refl (others j ne) (work.frame.reads j ne) (so_far.done tells j (grind (arith, lt, ne)) member whole)

      pub doing_on : faults_at c k ≡ faults_at b k → (told → D k b c) → Doing told P D live failed (k + 1) a c
      doing_on faults now = record {
        among = so_far.among;
        ahead = λ j le. so_far.ahead j (omega (arith, le));
        counted = count_same faults;
        any_moment = doing_run;
        done = λ tells j lt member whole. elim (eqb_tells j k) [
          | inl is ↦ subst (λ (x : ℕ). D x a c) (sym is.1) (of_dir k b c a c (sym here) (sym (so_far.reads k (omega arith))) refl refl (now tells))
          | inr differs ↦ done_before tells j differs.1 lt member whole
        ];
        later = later_on;
        reads = reads_on;
        count = work.frame.count ∙ so_far.count;
        left = doing_left;
        quiet = doing_quiet;
      }

      module _ {more : Members} (with : (j : ℕ) → has more j ≡ ((j == k) || has failed j)) where
        has_it : has more k ≡ true
        has_it = with k ∙ elim (eqb_tells k k) [ inl same ↦ ap (λ (x : Bool). x || has failed k) same.0 | inr other ↦ absurd (other.1 refl) ]

        same_other : (j : ℕ) → j ≢ k → has more j ≡ has failed j
        same_other j ne = with j ∙ elim (eqb_tells j k) [ inl is ↦ absurd (ne is.1) | inr differs ↦ ap (λ (x : Bool). x || has failed j) differs.0 ]

        not_it : (j : ℕ) → has more j ≡ false → j ≢ k
        not_it j whole e = let apart = sym whole ∙ ap (has more) e ∙ has_it in cc

        pub doing_fails : (fault : MakeFault) → fault ≡ Failed → IsCountedBy {T = Unit {0}} k b c (Err fault) → Doing told P D live more (k + 1) a c
        doing_fails fault is_failed faults = record {
          among = λ j there. elim (eqb_tells j k) [
            | inl is ↦ subst (λ (x : ℕ). has live x ≡ true) (sym is.1) in_it
            | inr differs ↦ so_far.among j (sym (same_other j differs.1) ∙ there)
          ];
          ahead = λ j le. same_other j (λ e. let same : j ≡ k = e in omega (arith, le, same)) ∙ so_far.ahead j (omega (arith, le));
          counted = λ j. elim (eqb_tells j k) [
            | inl is ↦ subst (λ (x : ℕ). faults_at c x ≡ (if has more x then next_count (faults_at a x) else faults_at a x)) (sym is.1)
                (by_failure k b c fault is_failed faults ∙ ap (λ (d : Dir). next_count d.faults) here ∙ sym (ap (λ (x : Bool). if x then next_count (faults_at a k) else faults_at a k) has_it))
            | inr differs ↦ count_other more j differs.1 (same_other j differs.1)
          ];
          any_moment = doing_run;
          done = λ tells j lt member whole. done_before tells j (not_it j whole) lt member (sym (same_other j (not_it j whole)) ∙ whole);
          later = later_on;
          reads = reads_on;
          count = work.frame.count ∙ so_far.count;
          left = doing_left;
          quiet = doing_quiet;
        }

  pub doing_ends : DoneEach told P live failed a b
  doing_ends = record { among = so_far.among; counted = so_far.counted; any_moment = so_far.any_moment; left = so_far.left; quiet = so_far.quiet; count = so_far.count }

  pub doing_all : 8 ≤ k → told → (j : ℕ) → has live j ≡ true → has failed j ≡ false → D j a b
  doing_all is tells j member whole = so_far.done tells j (omega (arith, member_below live j member, is)) member whole

-- the same, under other terms for the set and the state
pub doing_as : {told : Type 0} {P : Reads → Disk → Disk → Type 0} {D : ℕ → State → State → Type 0} {live failed failed2 : Members} {k : ℕ} {a b b2 : State} → failed2 ≡ failed → b2 ≡ b → Doing told P D live failed k a b → Doing told P D live failed2 k a b2
doing_as {told} {P} {D} {live} {failed} {failed2} {k} {a} {b} {b2} sets states p =
    subst (λ (s : Members). Doing told P D live s k a b2) (sym sets) (subst (λ (x : State). Doing told P D live failed k a x) (sym states) p)
