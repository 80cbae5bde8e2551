-- A step in the holders, and then in the others.
use Rattle.std.proofs.Common.{◌≡◌, ◌≢◌, inl, inr, ⊎_elim, ℕ, suc, ◌+◌, ◌-◌, ◌^◌, ◌<◌, ◌≤◌, ◌&&◌, not, Bool, true, false, List, [], ◌∷◌, length, get_or, refl, sym, ◌∙◌, ap, subst, arith}
use Rattle.std.proofs.lemmas.Bool.{cases_Bool, and_parts}
use Rattle.nn_base.specs.DirSets.{Members, values, has, count_true, count_of}
use Rattle.nn_host.specs.Moments.{State, Moment, Dir, disk_at, faults_at}
use Rattle.nn_host.specs.Calls.{next_count}
use Rattle.nn_host.specs.Runs.{Throughout, EachDir}
use Rattle.nn_host.proofs.RunsLemmas.{throughout_trans, throughout_weaker, unspoken_trans}
use Rattle.nn_marks.specs.declared.version.Version.{Version}
use Rattle.nn_segment_file.specs.Log.{Shared}
use Rattle.nn_segment_file.specs.Steps.{Logged}
use Rattle.nn_segment_file.specs.Stages.{Stage, base_of, last_of, StandsAt, Does, Leads}
use Rattle.nn_segment_file.specs.declared.step.Step.{Step}
use Rattle.nn_segment_file.proofs.BesideLemmas.{beside_refl}
use Rattle.nn_segment_file.proofs.CallLemmas.{logs_weaker}
use Rattle.nn_segment_file.proofs.StageLemmas.{stage_logs, does_grow, leads_stands}
use Rattle.nn_journal.specs.Among.{AllAt, AmongAt, StaysLive, EachCounted, OrderedAt, IsLeftAlone, LeavesAlone, SteppedAmong, SteppedAll}
use Rattle.nn_journal.proofs.AmongLemmas.{calls_both, walk_begins, walk_whole}

-- ---- parts of a set

-- those of the first that are in the second, or those that aren't
pub record IsPart (set other : Members) (wanted : Bool) (part : Members) : Type 0 where
  pub in_set : (j : ℕ) → has part j ≡ true → has set j ≡ true
  pub in_other : (j : ℕ) → has part j ≡ true → has other j ≡ wanted
  pub all : (j : ℕ) → has set j ≡ true → has other j ≡ wanted → has part j ≡ true

pub not_true : (b : Bool) → not b ≡ true → b ≡ false
not_true true e = cc
not_true false e = refl

pub both_part : {set other part : Members} → ((j : ℕ) → has part j ≡ (has set j && has other j)) → IsPart set other true part
both_part {set} {other} {part} is = record {
  in_set = λ j there. (and_parts (has set j) (has other j) (sym (is j) ∙ there)).0;
  in_other = λ j there. (and_parts (has set j) (has other j) (sym (is j) ∙ there)).1;
  all = λ j a b. is j ∙ (λ i. a i && b i);
}

pub rest_part : {set other part : Members} → ((j : ℕ) → has part j ≡ (has set j && not (has other j))) → IsPart set other false part
rest_part {set} {other} {part} is = record {
  in_set = λ j there. (and_parts (has set j) (not (has other j)) (sym (is j) ∙ there)).0;
  in_other = λ j there. not_true (has other j) (and_parts (has set j) (not (has other j)) (sym (is j) ∙ there)).1;
  all = λ j a b. is j ∙ (λ i. a i && not (b i));
}

-- values that are true in one place of two lists at most, and only where they are in a third
apart_true : (xs ys zs : List Bool) → length ys ≡ length xs → length zs ≡ length xs → ((j : ℕ) → get_or ys j false ≡ true → get_or xs j false ≡ true) → ((j : ℕ) → get_or zs j false ≡ true → (get_or xs j false ≡ true) × (get_or ys j false ≡ false))
    → count_true ys + count_true zs ≤ count_true xs
apart_true [] [] [] m n y z = omega arith
apart_true [] [] (c ∷ zs) m n y z = absurd (omega (arith, n))
apart_true [] (b ∷ ys) zs m n y z = absurd (omega (arith, m))
apart_true (x ∷ xs) [] zs m n y z = absurd (omega (arith, m))
apart_true (x ∷ xs) (b ∷ ys) [] m n y z = absurd (omega (arith, n))
apart_true (true ∷ xs) (true ∷ ys) (true ∷ zs) m n y z = absurd (let apart = (z 0 refl).1 in cc)
apart_true (true ∷ xs) (true ∷ ys) (false ∷ zs) m n y z = omega (arith, apart_true xs ys zs (omega (arith, m)) (omega (arith, n)) (λ j. y (suc j)) (λ j. z (suc j)))
apart_true (true ∷ xs) (false ∷ ys) (true ∷ zs) m n y z = omega (arith, apart_true xs ys zs (omega (arith, m)) (omega (arith, n)) (λ j. y (suc j)) (λ j. z (suc j)))
apart_true (true ∷ xs) (false ∷ ys) (false ∷ zs) m n y z = omega (arith, apart_true xs ys zs (omega (arith, m)) (omega (arith, n)) (λ j. y (suc j)) (λ j. z (suc j)))
apart_true (false ∷ xs) (true ∷ ys) (c ∷ zs) m n y z = absurd (let apart = y 0 refl in cc)
apart_true (false ∷ xs) (false ∷ ys) (true ∷ zs) m n y z = absurd (let apart = (z 0 refl).0 in cc)
apart_true (false ∷ xs) (false ∷ ys) (false ∷ zs) m n y z = omega (arith, apart_true xs ys zs (omega (arith, m)) (omega (arith, n)) (λ j. y (suc j)) (λ j. z (suc j)))

-- a directory that is and isn't in a set
clash : {b : Bool} → b ≡ true → b ≡ false → ⊥
clash t f = let apart = sym t ∙ f in cc

module _ {told : Type 0} {step : Step} {first : ℕ} {bytes : List ℕ} {live holders holding others live1 live2 : Members} {a b c : State} (front : IsPart live holders true holding) (back : IsPart live holders false others)
    (one : SteppedAmong told step first bytes holding live live1 a b) (two : SteppedAmong told step first bytes others live1 live2 b c) where
  -- a live directory is in one of the two parts, and not in the other

  in_front : (j : ℕ) → has live j ≡ true → has holders j ≡ true → has others j ≡ false
  in_front j is_live holds = elim (cases_Bool (has others j)) [
    | inl there ↦ absurd (clash holds (back.in_other j there))
    | inr none ↦ none
  ]

  not_front : (j : ℕ) → has holders j ≡ false → has holding j ≡ false
  not_front j lacks = elim (cases_Bool (has holding j)) [
    | inl there ↦ absurd (clash (front.in_other j there) lacks)
    | inr none ↦ none
  ]

  not_live_front : (j : ℕ) → has live j ≡ false → has holding j ≡ false
  not_live_front j lacks = elim (cases_Bool (has holding j)) [ inl there ↦ absurd (clash (front.in_set j there) lacks) | inr none ↦ none ]

  not_live_back : (j : ℕ) → has live j ≡ false → has others j ≡ false
  not_live_back j lacks = elim (cases_Bool (has others j)) [ inl there ↦ absurd (clash (back.in_set j there) lacks) | inr none ↦ none ]

  -- ---- counts

  one_same : (j : ℕ) → has holding j ≡ false → StaysLive live live1 a b j
  one_same j out = ⊎_elim (λ stays. stays) (λ dropped. absurd (clash dropped.was_among out)) (one.counted j)

  all_counted : EachCounted live live live2 a c
  all_counted j = elim (two.counted j) [
    | inl stays ↦ elim (one.counted j) [
      | inl before ↦ inl (record { same_live = stays.same_live ∙ before.same_live; faults = stays.faults ∙ before.faults })
      | inr dropped ↦ inr (record { was_among = front.in_set j dropped.was_among; not_live = stays.same_live ∙ dropped.not_live; faults = stays.faults ∙ dropped.faults })
    ]
    | inr dropped ↦ (let before = one_same j (not_front j (back.in_other j dropped.was_among)) in
        inr (record { was_among = back.in_set j dropped.was_among; not_live = dropped.not_live; faults = dropped.faults ∙ ap next_count before.faults }))
  ]

  -- ---- one that failed is left alone

  left_first : told → (m : Moment) → IsLeftAlone holding a b m → IsLeftAlone live a c m
  left_first tells m p = record {
    grown = p.grown;
    others = λ j out. p.others j (not_live_front j out);
    failed = λ j rose. ⊎_elim
        (λ stays. absurd (omega (arith, rose, ap (λ (d : Dir). d.faults) (p.failed j rose), stays.faults)))
        (λ dropped. p.failed j rose ∙ sym ((two.left.ends tells).others j (in_front j (front.in_set j dropped.was_among) (front.in_other j dropped.was_among))))
        (one.counted j);
  }

  left_second : told → (m : Moment) → IsLeftAlone others b c m → IsLeftAlone live a c m
  left_second tells m p = record {
    grown = λ j. omega (arith, p.grown j, (one.left.ends tells).grown j);
    others = λ j out. p.others j (not_live_back j out) ∙ (one.left.ends tells).others j (not_live_front j out);
    failed = λ j rose. ⊎_elim
        (λ stays. p.failed j (omega (arith, rose, stays.faults)))
        (λ dropped. let out = in_front j (front.in_set j dropped.was_among) (front.in_other j dropped.was_among) in p.others j out ∙ sym ((two.left.ends tells).others j out))
        (one.counted j);
  }

  all_left : LeavesAlone told live a c
  all_left = throughout_trans (throughout_weaker one.left left_first) (throughout_weaker two.left left_second)

  module _ (version : Version) (list : Shared) (from to : Stage) (does : Does version list step first bytes from to) where
    module _ (start : told → AllAt version list from live a) where
      front_start : told → AllAt version list from holding a
      front_start tells j there = start tells j (front.in_set j there)

      one_run : Throughout told a b (EachDir (AmongAt version list from to holding a))
      one_run = one.any_moment version list from to does front_start

      -- the others were not touched by then
      back_same : told → (j : ℕ) → has holding j ≡ false → b.now.dirs j ≡ a.now.dirs j
      back_same tells j out = ((one_run.ends tells).at j).same out

      back_start : told → AllAt version list from others b
      back_start tells j there = subst (λ (d : Dir). StandsAt version list from d.disk) (sym (back_same tells j (not_front j (back.in_other j there)))) (start tells j (back.in_set j there))

      two_run : Throughout told b c (EachDir (AmongAt version list from to others b))
      two_run = two.any_moment version list from to does back_start

      -- a directory that wasn't touched yet
      untouched_yet : told → (j : ℕ) (d : Dir) → has live j ≡ true → d ≡ a.now.dirs j → Logged version list (base_of from) (last_of from) (last_of to) (disk_at a j) d.disk
      untouched_yet tells j d is_live same = subst (λ (x : Dir). Logged version list (base_of from) (last_of from) (last_of to) (disk_at a j) x.disk) (sym same)
          (record { logs = logs_weaker (last_of from) (last_of to) (omega arith) (does_grow does) (stage_logs version list from (disk_at a j) (start tells j is_live)); beside = beside_refl (disk_at a j) })

      first_at : told → (m : Moment) → EachDir (AmongAt version list from to holding a) m → EachDir (AmongAt version list from to live a) m
      first_at tells m each = record {
        at = λ j. record {
          logged = λ is_live. elim (cases_Bool (has holding j)) [
            | inl there ↦ (each.at j).logged there
            | inr out ↦ untouched_yet tells j (m.dirs j) is_live ((each.at j).same out)
          ];
          same = λ out. (each.at j).same (not_live_front j out);
        };
      }

      second_at : told → (m : Moment) → EachDir (AmongAt version list from to others b) m → EachDir (AmongAt version list from to live a) m
      second_at tells m each = record {
        at = λ j. record {
          logged = λ is_live. elim (cases_Bool (has others j)) [
            | inl there ↦ subst (λ (old : Dir). Logged version list (base_of from) (last_of from) (last_of to) old.disk (m.dirs j).disk) (back_same tells j (not_front j (back.in_other j there))) ((each.at j).logged there)
            | inr out ↦ subst (λ (d : Dir). Logged version list (base_of from) (last_of from) (last_of to) (disk_at a j) d.disk) (sym ((each.at j).same out)) (((first_at tells b.now (one_run.ends tells)).at j).logged is_live)
          ];
          same = λ out. (each.at j).same (not_live_back j out) ∙ back_same tells j (not_live_front j out);
        };
      }

      all_run : Throughout told a c (EachDir (AmongAt version list from to live a))
      all_run = throughout_trans (throughout_weaker one_run first_at) (throughout_weaker two_run second_at)

      -- ---- holders first

      rose : (n : ℕ) → n < 2 ^ 64 - 1 → next_count n ≢ n
      rose n small e = omega (arith, small, e)

      held : told → (m : Moment) → EachDir (AmongAt version list from to others b) m → (j : ℕ) → has live j ≡ true → has holders j ≡ true → faults_at a j < 2 ^ 64 - 1 → (m.dirs j).faults ≡ faults_at a j → StandsAt version list to (m.dirs j).disk
      held tells m each j is_live holds small same =
          let there = (each.at j).same (in_front j is_live holds) in
          let counted : faults_at b j ≡ faults_at a j = sym (ap (λ (d : Dir). d.faults) there) ∙ same in
          let still : has live1 j ≡ true = ⊎_elim (λ stays. stays.same_live ∙ is_live) (λ dropped. absurd (rose (faults_at a j) small (sym dropped.faults ∙ counted))) (one.counted j) in
          leads_stands does (m.dirs j).disk (subst (λ (d : Dir). Leads does d.disk) (sym there) (one.done version list from to does tells (front_start tells) j (front.all j is_live holds) still))

      all_ordered : Throughout told a c (OrderedAt version list to live holders a)
      all_ordered = throughout_trans
          (throughout_weaker one_run (λ tells m each. inl (λ j lacks. (each.at j).same (not_front j lacks))))
          (throughout_weaker two_run (λ tells m each. inr (held tells m each)))

    all_done : told → AllAt version list from live a → (j : ℕ) → has live j ≡ true → has live2 j ≡ true → Leads does (disk_at c j)
    all_done tells start j is_live still = elim (cases_Bool (has holders j)) [
      | inl holds ↦ (let mid : has live1 j ≡ true = ⊎_elim (λ stays. sym stays.same_live ∙ still) (λ dropped. absurd (clash still dropped.not_live)) (two.counted j) in
          subst (λ (d : Dir). Leads does d.disk) (sym ((((two_run (λ t. start)).ends tells).at j).same (in_front j is_live holds)))
          (one.done version list from to does tells (front_start (λ t. start) tells) j (front.all j is_live holds) mid))
      | inr lacks ↦ two.done version list from to does tells (back_start (λ t. start) tells) j (back.all j is_live lacks) still
    ]

  few : count_of holding + count_of others ≤ count_of live
  few = apart_true (values live) (values holding) (values others) refl refl front.in_set (λ j there. (back.in_set j there, not_front j (back.in_other j there)))

  pub stepped_all : SteppedAll told step first bytes holders live live2 a c
  stepped_all = record {
    counted = all_counted;
    any_moment = all_run;
    done = all_done;
    order = all_ordered;
    left = all_left;
    quiet = unspoken_trans one.quiet two.quiet;
    calls = λ tells. omega (arith, one.calls tells, two.calls tells, calls_both step (count_of holding) (count_of others) (count_of live) few);
  }

-- Where none holds, those that were live are the others.
pub stepped_others : {told : Type 0} {step : Step} {first : ℕ} {bytes : List ℕ} {holders live live2 : Members} {a c : State} → ((j : ℕ) → has holders j ≡ false) → SteppedAmong told step first bytes live live live2 a c
    → SteppedAll told step first bytes holders live live2 a c
stepped_others {told} {step} {first} {bytes} {holders} {live} none one =
    let nowhere : (j : ℕ) → has holders j ≡ true → ⊥ = λ j there. let apart = sym (none j) ∙ there in cc in
    stepped_all {holding = holders}
    (record { in_set = λ j there. absurd (nowhere j there); in_other = λ j there. there; all = λ j is_live holds. holds })
    (record { in_set = λ j there. there; in_other = λ j there. none j; all = λ j is_live lacks. is_live })
    (walk_whole walk_begins (λ j there. absurd (nowhere j there)))
    one
