-- From directory to directory: which have gone on so far.
use Rattle.std.proofs.Common.{◌≡◌, ◌≢◌, ◌⊎◌, inl, inr, ⊎_elim, ℕ, zero, suc, ◌+◌, ◌*◌, ◌<◌, ◌≤◌, ◌==◌, ◌&&◌, not, Bool, true, false, List, [], ◌∷◌, take, get_or, Ok, refl, sym, ◌∙◌, ap, subst, arith}
use Rattle.std.proofs.lemmas.Bool.Decides.{eqb_tells}
use Rattle.nn_base.specs.DirSets.{Members, values, has, count_true, count_of}
use Rattle.nn_base.proofs.DirSetLemmas.{member_below}
use Rattle.nn_host.specs.Disk.{Disk}
use Rattle.nn_host.specs.declared.host.Failed.{Failed}
use Rattle.nn_host.specs.Moments.{State, Moment, Dir, SameBut, moment, disk_at, faults_at}
use Rattle.nn_host.specs.Calls.{next_count}
use Rattle.nn_host.specs.Runs.{OnlyAt, Unspoken}
use Rattle.nn_host.proofs.RunsLemmas.{throughout_refl, throughout_trans, throughout_weaker, throughout_both, unspoken_refl, unspoken_trans}
use Rattle.nn_host.proofs.WorkLemmas.{each_dir_work, throughout_work, unspoken_work}
use Rattle.nn_small.specs.Failure.{EndsByFailure}
use Rattle.nn_marks.specs.declared.version.Version.{Version}
use Rattle.nn_segment_file.specs.Log.{Shared, Beside}
use Rattle.nn_segment_file.specs.Steps.{Logged}
use Rattle.nn_segment_file.specs.Stages.{Stage, base_of, last_of, StandsAt, Does, Leads, StepsAtAnyMoment, HasStepped, Touched, calls_of}
use Rattle.nn_segment_file.specs.declared.step.Step.{Step}
use Rattle.nn_segment_file.specs.declared.step.Step.TheVariants.{Start, Write, End}
use Rattle.nn_segment_file.proofs.BesideLemmas.{beside_refl}
use Rattle.nn_segment_file.proofs.CallLemmas.{logs_weaker}
use Rattle.nn_segment_file.proofs.StageLemmas.{stage_logs, does_grow}
use Rattle.nn_journal.specs.Among.{AllAt, StaysLive, IsDropped, EachCounted, AmongAtAnyMoment, IsLeftAlone, LeavesAlone, SteppedAmong}

-- ---- how many of a set were gone over

pub count_past : (k : ℕ) (bs : List Bool) → count_true (take k bs) ≤ count_true (take (suc k) bs)
count_past zero [] = omega arith
count_past zero (b ∷ bs) = omega arith
count_past (suc k) [] = omega arith
count_past (suc k) (true ∷ bs) = omega (arith, count_past k bs)
count_past (suc k) (false ∷ bs) = omega (arith, count_past k bs)

pub count_next : (k : ℕ) (bs : List Bool) → get_or bs k false ≡ true → count_true (take k bs) + 1 ≤ count_true (take (suc k) bs)
count_next zero [] there = cc
count_next zero (true ∷ bs) there = omega arith
count_next zero (false ∷ bs) there = cc
count_next (suc k) [] there = cc
count_next (suc k) (true ∷ bs) there = omega (arith, count_next k bs there)
count_next (suc k) (false ∷ bs) there = omega (arith, count_next k bs there)

pub count_front : (k : ℕ) (bs : List Bool) → count_true (take k bs) ≤ count_true bs
count_front zero bs = omega arith
count_front (suc k) [] = omega arith
count_front (suc k) (true ∷ bs) = omega (arith, count_front k bs)
count_front (suc k) (false ∷ bs) = omega (arith, count_front k bs)

-- how many of the first k directories are in it
abbrev pub count_to : ℕ → Members → ℕ
count_to k set = count_true (take k (values set))

-- one bound for two parts
pub calls_both : (step : Step) (x y z : ℕ) → x + y ≤ z → calls_of step * x + calls_of step * y ≤ calls_of step * z
calls_both Start x y z le = omega (arith, le)
calls_both Write x y z le = omega (arith, le)
calls_both (End end) x y z le = omega (arith, le)

-- ---- how far the walk has come

-- the first k directories were gone over
pub record Walked (told : Type 0) (step : Step) (first : ℕ) (bytes : List ℕ) (among live0 live : Members) (k : ℕ) (a b : State) : Type 0 where
  pub counted : EachCounted among live0 live a b
  pub run : AmongAtAnyMoment told step first bytes among a b
  pub done : (version : Version) (list : Shared) (from to : Stage) (does : Does version list step first bytes from to) → told → AllAt version list from among a → (j : ℕ) → j < k → has among j ≡ true → has live j ≡ true → Leads does (disk_at b j)
  pub later : (j : ℕ) → k ≤ j → b.now.dirs j ≡ a.now.dirs j
  pub still : (j : ℕ) → k ≤ j → has live j ≡ has live0 j
  pub count : b.count ≡ a.count
  pub left : LeavesAlone told among a b
  pub quiet : Unspoken told a b
  pub calls : told → moment b ≤ moment a + calls_of step * count_to k among

module _ {told : Type 0} {step : Step} {first : ℕ} {bytes : List ℕ} {among live0 : Members} where
  pub walk_begins : {a : State} → Walked told step first bytes among live0 live0 0 a a
  walk_begins {a} = record {
    counted = λ j. inl (record { same_live = refl; faults = refl });
    run = λ version list from to does start. throughout_refl (λ tells. record {
      at = λ j. record {
        logged = λ in_it. record { logs = logs_weaker (last_of from) (last_of to) (omega arith) (does_grow does) (stage_logs version list from (disk_at a j) (start tells j in_it)); beside = beside_refl (disk_at a j) };
        same = λ out. refl;
      };
    });
    done = λ version list from to does tells start j lt. absurd (omega (arith, lt));
    later = λ j le. refl;
    still = λ j le. refl;
    count = refl;
    left = throughout_refl (λ tells. record { grown = λ j. omega arith; others = λ j out. refl; failed = λ j rose. refl });
    quiet = unspoken_refl;
    calls = λ tells. omega arith;
  }

  module _ {live : Members} {k : ℕ} {a b : State} (so_far : Walked told step first bytes among live0 live k a b) where
    one_on : count_to (suc k) among ≡ count_to (k + 1) among
    one_on = let next : suc k ≡ k + 1 = omega arith in ap (λ (n : ℕ). count_to n among) next

    -- a directory that isn't among them
    pub walk_past : has among k ≡ false → Walked told step first bytes among live0 live (k + 1) a b
    walk_past out = record {
      counted = so_far.counted;
      run = so_far.run;
      done = λ version list from to does tells start j lt in_it is_live. elim (eqb_tells j k) [
        | inl is ↦ absurd (let apart = sym out ∙ ap (has among) (sym is.1) ∙ in_it in cc)
        | inr differs ↦ (let ne = differs.1 in so_far.done version list from to does tells start j (grind (arith, lt, ne)) in_it is_live)
      ];
      later = λ j le. so_far.later j (omega (arith, le));
      still = λ j le. so_far.still j (omega (arith, le));
      count = so_far.count;
      left = so_far.left;
      quiet = so_far.quiet;
      calls = λ tells. omega (arith, so_far.calls tells, calls_both step (count_to k among) 0 (count_to (k + 1) among) (omega (arith, count_past k (values among), one_on)));
    }

    module _ {c : State} (in_it : has among k ≡ true) (beside : OnlyAt told k b c (Beside (Touched step first) (disk_at b k))) (steps : StepsAtAnyMoment told k step first bytes b c) (fails : EndsByFailure told k b c) (calls : told → moment c ≤ moment b + calls_of step) where
      walk_quiet : Unspoken told a c
      walk_quiet = unspoken_trans so_far.quiet (unspoken_work beside)

      walk_calls : told → moment c ≤ moment a + calls_of step * count_to (k + 1) among
      walk_calls tells = omega (arith, so_far.calls tells, calls tells, calls_both step (count_to k among) 1 (count_to (k + 1) among) (omega (arith, count_next k (values among) in_it, one_on)))

      walk_run : AmongAtAnyMoment told step first bytes among a c
      walk_run version list from to does start =
          let here : disk_at b k ≡ disk_at a k = ap (λ (d : Dir). d.disk) (so_far.later k (omega arith)) in
          each_dir_work (so_far.run version list from to does start)
          (steps version list from to does (λ tells. subst (StandsAt version list from) (sym here) (start tells k in_it)))
          (λ tells d p counted. record { logged = λ member. subst (λ (old : Disk). Logged version list (base_of from) (last_of from) (last_of to) old d.disk) here p; same = λ out. absurd (let apart = sym out ∙ in_it in cc) })

      others : (j : ℕ) → j ≢ k → c.now.dirs j ≡ b.now.dirs j
      others j ne = beside.frame.now.dirs j ne

      -- what was left alone so far still is
      left_before : told → (m : Moment) → IsLeftAlone among a b m → IsLeftAlone among a c m
      left_before tells m p = record {
        grown = p.grown;
        others = p.others;
        failed = λ j rose. elim (eqb_tells j k) [
          | inl is ↦ (let same : j ≡ k = is.1 in
              absurd (omega (arith, rose, ap (λ (d : Dir). d.faults) (p.failed j rose), ap (λ (d : Dir). d.faults) (so_far.later j (omega (arith, same))))))
          | inr differs ↦ p.failed j rose ∙ sym (others j differs.1)
        ];
      }

      left_here : told → (m : Moment) → SameBut k b.now m → faults_at b k ≤ (m.dirs k).faults → (faults_at b k < (m.dirs k).faults → m.dirs k ≡ c.now.dirs k) → IsLeftAlone among a c m
      left_here tells m same counted failed = record {
        grown = λ j. elim (eqb_tells j k) [
          | inl is ↦ subst (λ (x : ℕ). faults_at a x ≤ (m.dirs x).faults) (sym is.1) (omega (arith, counted, (so_far.left.ends tells).grown k))
          | inr differs ↦ omega (arith, ap (λ (d : Dir). d.faults) (same.dirs j differs.1), (so_far.left.ends tells).grown j)
        ];
        others = λ j out. same.dirs j (λ e. let apart = sym out ∙ ap (has among) e ∙ in_it in cc) ∙ (so_far.left.ends tells).others j out;
        failed = λ j rose. elim (eqb_tells j k) [
          | inl is ↦ subst (λ (x : ℕ). m.dirs x ≡ c.now.dirs x) (sym is.1) (failed (omega (arith, subst (λ (x : ℕ). faults_at a x < (m.dirs x).faults) is.1 rose, ap (λ (d : Dir). d.faults) (so_far.later k (omega arith)))))
          | inr differs ↦ same.dirs j differs.1 ∙ sym (others j differs.1)
        ];
      }

      walk_left : LeavesAlone told among a c
      walk_left = throughout_trans (throughout_weaker so_far.left left_before) (throughout_weaker (throughout_both (throughout_both (throughout_work beside (λ tells m work. work.others)) (throughout_work beside (λ tells m work. work.counted))) fails) (λ tells m is. left_here tells m is.0.0 is.0.1 is.1))

      walk_later : (j : ℕ) → k + 1 ≤ j → c.now.dirs j ≡ a.now.dirs j
      walk_later j le = others j (λ e. let same : j ≡ k = e in omega (arith, le, same)) ∙ so_far.later j (omega (arith, le))

      -- a count that was as it is, or rose, in another directory
      counted_other : (live1 : Members) (j : ℕ) → j ≢ k → has live1 j ≡ has live j → StaysLive live0 live1 a c j ⊎ IsDropped among live1 a c j
      counted_other live1 j ne same =
          let faults : faults_at c j ≡ faults_at b j = ap (λ (d : Dir). d.faults) (others j ne) in
          ⊎_elim
          (λ stays. inl (record { same_live = same ∙ stays.same_live; faults = faults ∙ stays.faults }))
          (λ dropped. inr (record { was_among = dropped.was_among; not_live = same ∙ dropped.not_live; faults = faults ∙ dropped.faults }))
          (so_far.counted j)

      -- an earlier directory has gone on
      done_before : (live1 : Members) → ((j : ℕ) → j ≢ k → has live1 j ≡ has live j) → (version : Version) (list : Shared) (from to : Stage) (does : Does version list step first bytes from to) → told → AllAt version list from among a
          → (j : ℕ) → j ≢ k → j < k + 1 → has among j ≡ true → has live1 j ≡ true → Leads does (disk_at c j)
      done_before live1 same version list from to does tells start j ne lt member is_live =
          subst (λ (d : Dir). Leads does d.disk) (sym (others j ne)) (so_far.done version list from to does tells start j (grind (arith, lt, ne)) member (sym (same j ne) ∙ is_live))

      pub walk_on : faults_at c k ≡ faults_at b k → (told → HasStepped {T = Unit {0}} {E = Failed} k step first bytes b c (Ok tt)) → Walked told step first bytes among live0 live (k + 1) a c
      walk_on faults stepped = record {
        counted = λ j. elim (eqb_tells j k) [
          | inl is ↦ inl (subst (λ (x : ℕ). StaysLive live0 live a c x) (sym is.1) (record { same_live = so_far.still k (omega arith); faults = faults ∙ ap (λ (d : Dir). d.faults) (so_far.later k (omega arith)) }))
          | inr differs ↦ counted_other live j differs.1 refl
        ];
        run = walk_run;
        done = λ version list from to does tells start j lt member is_live. elim (eqb_tells j k) [
          | inl is ↦ subst (λ (x : ℕ). Leads does (disk_at c x)) (sym is.1)
              (stepped tells version list from to does (subst (λ (d : Dir). StandsAt version list from d.disk) (sym (so_far.later k (omega arith))) (start k in_it)))
          | inr differs ↦ done_before live (λ x ne. refl) version list from to does tells start j differs.1 lt member is_live
        ];
        later = walk_later;
        still = λ j le. so_far.still j (omega (arith, le));
        count = beside.frame.count ∙ so_far.count;
        left = walk_left;
        quiet = walk_quiet;
        calls = walk_calls;
      }

      module _ {less : Members} (without : (j : ℕ) → has less j ≡ (not (j == k) && has live j)) where
        gone : has less k ≡ false
        gone = without k ∙ elim (eqb_tells k k) [ inl same ↦ ap (λ (x : Bool). not x && has live k) same.0 | inr other ↦ absurd (other.1 refl) ]

        same_other : (j : ℕ) → j ≢ k → has less j ≡ has live j
        same_other j ne = without j ∙ elim (eqb_tells j k) [ inl is ↦ absurd (ne is.1) | inr differs ↦ ap (λ (x : Bool). not x && has live j) differs.0 ]

        pub walk_drops : faults_at c k ≡ next_count (faults_at b k) → Walked told step first bytes among live0 less (k + 1) a c
        walk_drops faults = record {
          counted = λ j. elim (eqb_tells j k) [
            | inl is ↦ inr (subst (λ (x : ℕ). IsDropped among less a c x) (sym is.1) (record { was_among = in_it; not_live = gone; faults = faults ∙ ap (λ (d : Dir). next_count d.faults) (so_far.later k (omega arith)) }))
            | inr differs ↦ counted_other less j differs.1 (same_other j differs.1)
          ];
          run = walk_run;
          done = λ version list from to does tells start j lt member is_live. elim (eqb_tells j k) [
            | inl is ↦ absurd (let apart = sym gone ∙ ap (has less) (sym is.1) ∙ is_live in cc)
            | inr differs ↦ done_before less same_other version list from to does tells start j differs.1 lt member is_live
          ];
          later = walk_later;
          still = λ j le. same_other j (λ e. let same_k : j ≡ k = e in omega (arith, le, same_k)) ∙ so_far.still j (omega (arith, le));
          count = beside.frame.count ∙ so_far.count;
          left = walk_left;
          quiet = walk_quiet;
          calls = walk_calls;
        }

    pub walk_whole : ((j : ℕ) → has among j ≡ true → j < k) → SteppedAmong told step first bytes among live0 live a b
    walk_whole before = record {
      counted = so_far.counted;
      any_moment = so_far.run;
      done = λ version list from to does tells start j member is_live. so_far.done version list from to does tells start j (before j member) member is_live;
      left = so_far.left;
      quiet = so_far.quiet;
      calls = λ tells. omega (arith, so_far.calls tells, calls_both step (count_to k among) 0 (count_of among) (omega (arith, count_front k (values among))));
    }

    pub walk_ends : 8 ≤ k → SteppedAmong told step first bytes among live0 live a b
    walk_ends is = walk_whole (λ j member. omega (arith, member_below among j member, is))

-- the same, under other terms for the set, the place and the state
pub walked_as : {told : Type 0} {step : Step} {first : ℕ} {bytes : List ℕ} {among live0 live live2 : Members} {k : ℕ} {a b b2 : State} → live2 ≡ live → b2 ≡ b → Walked told step first bytes among live0 live k a b → Walked told step first bytes among live0 live2 k a b2
walked_as {told} {step} {first} {bytes} {among} {live0} {live} {live2} {k} {a} {b} {b2} sets states p =
    subst (λ (s : Members). Walked told step first bytes among live0 s k a b2) (sym sets) (subst (λ (x : State). Walked told step first bytes among live0 live k a x) (sym states) p)
