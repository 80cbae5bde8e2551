-- Counts from step to step: who is live, and what was seen.
use Rattle.std.proofs.Common.{◌≡◌, ◌⊎◌, inl, inr, ℕ, ◌+◌, ◌-◌, ◌<◌, ◌≤◌, ◌^◌, Bool, true, false, List, [], ◌∷◌, ◌++◌, length, take, Option, Some, None, refl, sym, ◌∙◌, ap, subst, arith}
use Rattle.std.specs.Prelude.{if◌then◌else◌, ◌==◌}
use Rattle.std.specs.List.{filter, slice_split}
use Rattle.std.proofs.lemmas.Bool.{cases_Bool, cases_lt, eq-eqb}
use Rattle.std.specs.Str.Lines.{lines_of_parts, strip_carriage_return}
use Rattle.std.proofs.lemmas.List.{length-append, length-take, length-map}
use Rattle.std.proofs.lemmas.List.Elements.{filter-append, All-cons, All-nil, All-append, All-weaker}
use Rattle.std.proofs.lemmas.List.Splits.{length-slice_split}
use Rattle.std.proofs.lemmas.List.Sums.{count_by-le-length}
use Rattle.nn_base.specs.Paths.{Bytes}
use Rattle.nn_host.specs.Moments.{State, faults_at}
use Rattle.nn_host.specs.Calls.{next_count}
use Rattle.nn_script.specs.Reading.{reading_of}
use Rattle.nn_run.specs.Running.{Asked, SeesLive, restored_dir, is_dir, back_at, is_back}
use Rattle.nn_run.specs.Window.{base_since}
use Rattle.nn_run.specs.Steps.{StepCounts, SeesRestored}
use Rattle.nn_run.specs.Loop.{AreBased}
use Rattle.nn_run.proofs.WindowLemmas.{if_true}
use Rattle.nn_run.proofs.BaseLemmas.{base_next, base_stays, back_base, back_is, is_back_there}
use Rattle.nn_whole.specs.Counted.{IsPast, tries_of, AreFew, AreGone, AreSame, SeenWithin, HasSeen, FirstIsSeen, NextIsCounted, OutIsCounted, NextIsSeen, FewLines}
use Rattle.nn_whole.proofs.ServedLemmas.{last_split}

-- ---- counts

pub count_rises : (n : ℕ) → n ≤ next_count n
count_rises n = omega arith

-- below its end it rises by one
pub rises_by_one : (n : ℕ) → n < 2 ^ 64 - 1 → n < next_count n
rises_by_one n room = omega (arith, room)

-- no count falls in a step
pub step_rises : (dir : Option ℕ) (live live_after : ℕ → Bool) (old new : State) → StepCounts dir live live_after old new → (i : ℕ) → faults_at old i ≤ faults_at new i
step_rises dir live live_after old new step i = elim (step i) [
  | inl stays ↦ omega (arith, stays.1)
  | inr other ↦ elim other [
    | inl drops ↦ omega (arith, drops.2, count_rises (faults_at old i))
    | inr back ↦ elim back.1 [
      | inl joins ↦ omega (arith, joins.2)
      | inr fails ↦ omega (arith, fails.2, count_rises (faults_at old i))
    ]
  ]
]

-- one that is live behind it was live, and has the same count; or it was to be taken back
pub step_narrows : (dir : Option ℕ) (live live_after : ℕ → Bool) (old new : State) → StepCounts dir live live_after old new → (i : ℕ) → live_after i ≡ true → ((live i ≡ true) × (faults_at new i ≡ faults_at old i)) ⊎ (dir ≡ Some i)
step_narrows dir live live_after old new step i e = elim (step i) [
  | inl stays ↦ inl (sym stays.0 ∙ e, stays.1)
  | inr other ↦ elim other [
    | inl drops ↦ absurd (cc (e, drops.1))
    | inr back ↦ inr back.0
  ]
]

-- a line that takes no directory back lets none join
pub none_narrows : (live live_after : ℕ → Bool) (old new : State) → StepCounts None live live_after old new → (i : ℕ) → live_after i ≡ true → (live i ≡ true) × (faults_at new i ≡ faults_at old i)
none_narrows live live_after old new step i e = elim (step_narrows None live live_after old new step i e) [
  | inl was ↦ was
  | inr back ↦ absurd (cc back)
]

-- live are just those whose count is that from which on they are of the run
pub live_by_count : (live : ℕ → Bool) (done : List Asked) (old s : State) → HasSeen live done old s → (i : ℕ) → i < old.count → base_since old done i < 2 ^ 64 - 1 → faults_at s i ≤ base_since old done i → live i ≡ true
live_by_count live done old s has i below room few = elim (cases_Bool (live i)) [
  | inl e ↦ e
  | inr e ↦ elim (has.gone i below e) [
    | inl past ↦ absurd (omega (arith, past, few))
    | inr last ↦ absurd (omega (arith, last, few, room))
  ]
]

-- ---- counts past others

past_later : (base n : ℕ) → IsPast base n → IsPast base (next_count n)
past_later base n past = elim past [
  | inl above ↦ inl (omega (arith, above, count_rises n))
  | inr last ↦ inr (omega (arith, last, count_rises n))
]

past_next : (n : ℕ) → IsPast n (next_count n)
past_next n = elim (cases_lt n (2 ^ 64 - 1)) [
  | inl room ↦ inl (rises_by_one n room)
  | inr last ↦ inr (omega (arith, last, count_rises n))
]

-- ---- how a step counts

-- the lines before it, and what stands behind them; the counts from which on directories are of the run are not moved yet
module _ (dir : Option ℕ) (live live_after : ℕ → Bool) (done : List Asked) (old s new : State) (has : HasSeen live done old s) (step : StepCounts dir live live_after s new) where
  gone_on : AreGone live_after done old new
  gone_on i below not = elim (step i) [
    | inl stays ↦ subst (IsPast (base_since old done i)) (sym stays.1) (has.gone i below (sym stays.0 ∙ not))
    | inr other ↦ elim other [
      | inl drops ↦ subst (IsPast (base_since old done i)) (sym (drops.2 ∙ ap next_count (has.same i below drops.0))) (past_next (base_since old done i))
      | inr back ↦ elim back.1 [
        | inl joins ↦ absurd (cc (not, joins.1))
        | inr fails ↦ subst (IsPast (base_since old done i)) (sym fails.2) (past_later (base_since old done i) (faults_at s i) (has.gone i below fails.0))
      ]
    ]
  ]

  same_on : (i : ℕ) → i < old.count → live_after i ≡ true → (dir ≡ Some i → ⊥) → faults_at new i ≡ base_since old done i
  same_on i below e not = elim (step_narrows dir live live_after s new step i e) [
    | inl was ↦ was.1 ∙ has.same i below was.0
    | inr back ↦ absurd (not back)
  ]

  few_on : (lines : List Asked) → ((i : ℕ) → (dir ≡ Some i → tries_of done i + 1 ≤ tries_of lines i) × (tries_of done i ≤ tries_of lines i)) → AreFew live_after lines old new
  few_on lines more i below =
      let before = has.few i below in
      elim (step i) [
        | inl stays ↦ subst (λ b. faults_at new i + (if b then 1 else 0) ≤ faults_at old i + 1 + tries_of lines i) (sym stays.0) (omega (arith, before, stays.1, (more i).1))
        | inr other ↦ elim other [
          | inl drops ↦ few_dropped i drops.1 (omega (arith, few_live i drops.0 before, drops.2, at_most (faults_at s i), (more i).1))
          | inr back ↦ elim back.1 [
            | inl joins ↦ few_joined i joins.1 (omega (arith, few_gone i joins.0 before, joins.2, (more i).0 back.0))
            | inr fails ↦ few_dropped i fails.1 (omega (arith, few_gone i fails.0 before, fails.2, at_most (faults_at s i), (more i).0 back.0))
          ]
        ]
      ]
    where
      at_most : (n : ℕ) → next_count n ≤ n + 1
      at_most n = omega arith

      few_live : (i : ℕ) → live i ≡ true → faults_at s i + (if live i then 1 else 0) ≤ faults_at old i + 1 + tries_of done i → faults_at s i + 1 ≤ faults_at old i + 1 + tries_of done i
      few_live i e few = subst (λ b. faults_at s i + (if b then 1 else 0) ≤ faults_at old i + 1 + tries_of done i) e few

      few_gone : (i : ℕ) → live i ≡ false → faults_at s i + (if live i then 1 else 0) ≤ faults_at old i + 1 + tries_of done i → faults_at s i + 0 ≤ faults_at old i + 1 + tries_of done i
      few_gone i e few = subst (λ b. faults_at s i + (if b then 1 else 0) ≤ faults_at old i + 1 + tries_of done i) e few

      few_dropped : (i : ℕ) → live_after i ≡ false → faults_at new i ≤ faults_at old i + 1 + tries_of lines i → faults_at new i + (if live_after i then 1 else 0) ≤ faults_at old i + 1 + tries_of lines i
      few_dropped i e few = subst (λ b. faults_at new i + (if b then 1 else 0) ≤ faults_at old i + 1 + tries_of lines i) (sym e) (omega (arith, few))

      few_joined : (i : ℕ) → live_after i ≡ true → faults_at new i + 1 ≤ faults_at old i + 1 + tries_of lines i → faults_at new i + (if live_after i then 1 else 0) ≤ faults_at old i + 1 + tries_of lines i
      few_joined i e few = subst (λ b. faults_at new i + (if b then 1 else 0) ≤ faults_at old i + 1 + tries_of lines i) (sym e) few

-- a line that was to take a directory back is one more of those
tries_next : (done : List Asked) (next : Asked) (i : ℕ) → (restored_dir (reading_of next.line) ≡ Some i → tries_of done i + 1 ≤ tries_of (done ++ next ∷ []) i) × (tries_of done i ≤ tries_of (done ++ next ∷ []) i)
tries_next done next i =
    let test : Asked → Bool = (λ asked. is_dir (restored_dir (reading_of asked.line)) i) in
    let split : tries_of (done ++ next ∷ []) i ≡ tries_of done i + length (filter test (next ∷ [])) = ap length (filter-append test done (next ∷ [])) ∙ length-append (filter test done) (filter test (next ∷ [])) in (
      λ e. omega (arith, split, ap length (one_kept test (ap (λ d. is_dir d i) e ∙ eq-eqb i i refl))),
      omega (arith, split),
    )
  where
    one_kept : (test : Asked → Bool) → test next ≡ true → filter test (next ∷ []) ≡ next ∷ []
    one_kept test e = if_true (test next) (next ∷ []) [] e

-- ---- what was seen

abbrev IsWithin : State → State → Asked → Type 0
IsWithin old new asked = (i : ℕ) → (faults_at old i ≤ asked.sight.faults i) × (asked.sight.faults i ≤ faults_at new i)

within_on : (done : List Asked) (old s new : State) → ((i : ℕ) → faults_at s i ≤ faults_at new i) → SeenWithin done old s → SeenWithin done old new
within_on done old s new rise all = All-weaker (IsWithin old s) (IsWithin old new) (λ asked it i. ((it i).0, omega (arith, (it i).1, rise i))) done all

pub first_is_seen : FirstIsSeen
first_is_seen live old s all_live same = record {
  same = λ i below e. same.faults i;
  gone = λ i below e. absurd (cc (e, all_live i below));
  few = λ i below. subst (λ b. faults_at s i + (if b then 1 else 0) ≤ faults_at old i + 1 + 0) (sym (all_live i below)) (omega (arith, same.faults i));
  based = λ i. (omega arith, omega (arith, same.faults i));
  sees = λ before asked later e. absurd (omega (arith, ap length e, length-append before (asked ∷ later)));
  within = All-nil (IsWithin old s);
}

pub next_is_counted : NextIsCounted
next_is_counted live live_after done old s new has step =
    let rise = step_rises None live live_after s new step in record {
      same = λ i below e. same_on None live live_after done old s new has step i below e (λ none. absurd (cc none));
      gone = gone_on None live live_after done old s new has step;
      few = few_on None live live_after done old s new has step done (λ i. ((λ none. absurd (cc none)), omega arith));
      based = λ i. ((has.based i).0, omega (arith, (has.based i).1, rise i));
      sees = has.sees;
      within = within_on done old s new rise has.within;
    }

pub out_is_counted : OutIsCounted
out_is_counted live live_after done next old s new has step =
    let dir = restored_dir (reading_of next.line) in record {
      gone = gone_on dir live live_after done old s new has step;
      few = few_on dir live live_after done old s new has step (done ++ next ∷ []) (tries_next done next);
      sees = has.sees;
      within = within_on done old s new (step_rises dir live live_after s new step) has.within;
    }

-- ---- a line that was answered

module _ (live live_after : ℕ → Bool) (done : List Asked) (next : Asked) (old s new : State) (has : HasSeen live done old s) (step : StepCounts (restored_dir (reading_of next.line)) live live_after s new)
    (sees_live : (i : ℕ) → next.sight.live i ≡ live_after i) (sees_faults : (i : ℕ) → next.sight.faults i ≡ faults_at new i) (restored : SeesRestored old.count live_after next) where
  abbrev dir : Option ℕ
  dir = restored_dir (reading_of next.line)

  rise : (i : ℕ) → faults_at s i ≤ faults_at new i
  rise = step_rises dir live live_after s new step

  -- the count is moved for the directory that the line took back, to what was seen then, and for no other
  moves : (i : ℕ) → ((base_since old (done ++ next ∷ []) i ≡ base_since old done i) × (is_back (back_at old.count next) i ≡ false)) ⊎ ((base_since old (done ++ next ∷ []) i ≡ faults_at new i) × (is_back (back_at old.count next) i ≡ true))
  moves i = elim (cases_Bool (is_back (back_at old.count next) i)) [
    | inl back ↦ inr (base_next old done next i ∙ back_base old.count (λ j. base_since old done j) next i back ∙ sees_faults i, back)
    | inr not ↦ inl (base_next old done next i ∙ base_stays (λ j. base_since old done j) (back_at old.count next) i not, not)
  ]

  same_now : AreSame live_after (done ++ next ∷ []) old new
  same_now i below e = elim (moves i) [
    | inl stays ↦ same_on dir live live_after done old s new has step i below e (λ is. absurd (cc (stays.1, is_back_there old.count next i below is ((restored i below is).1 e)))) ∙ sym stays.0
    | inr back ↦ sym back.0
  ]

  gone_now : AreGone live_after (done ++ next ∷ []) old new
  gone_now i below not = elim (moves i) [
    | inl stays ↦ subst (λ k. IsPast k (faults_at new i)) (sym stays.0) (gone_on dir live live_after done old s new has step i below not)
    | inr back ↦ let is = back_is old.count next i back.1 in absurd (cc (not, (restored i below is.0).0 is.1))
  ]

  based_now : AreBased old new (λ i. base_since old (done ++ next ∷ []) i)
  based_now i = elim (moves i) [
    | inl stays ↦ (omega (arith, stays.0, (has.based i).0), omega (arith, stays.0, (has.based i).1, rise i))
    | inr back ↦ (omega (arith, back.0, (has.based i).0, (has.based i).1, rise i), omega (arith, back.0))
  ]

  sees_next : SeesLive old.count (λ i. base_since old (done ++ next ∷ []) i) next.sight
  sees_next i below room = (
    λ e. omega (arith, sees_faults i, same_now i below (sym (sees_live i) ∙ e)),
    λ few. sees_live i ∙ elim (cases_Bool (live_after i)) [
      | inl e ↦ e
      | inr e ↦ elim (gone_now i below e) [
        | inl past ↦ absurd (omega (arith, past, few, sees_faults i))
        | inr last ↦ absurd (omega (arith, last, few, room, sees_faults i))
      ]
    ],
  )

pub next_is_seen : NextIsSeen
next_is_seen live live_after done next old s new has step sees_live sees_faults restored =
    let dir = restored_dir (reading_of next.line) in
    let based = based_now live live_after done next old s new has step sees_live sees_faults restored in record {
      same = same_now live live_after done next old s new has step sees_live sees_faults restored;
      gone = gone_now live live_after done next old s new has step sees_live sees_faults restored;
      few = few_on dir live live_after done old s new has step (done ++ next ∷ []) (tries_next done next);
      based = based;
      sees = λ before asked later e. elim (last_split done next before asked later e) [
        | inl it ↦ subst (λ b. SeesLive old.count (λ i. base_since old (b ++ asked ∷ []) i) asked.sight) (sym it.0)
            (subst (λ (x : Asked). SeesLive old.count (λ i. base_since old (done ++ x ∷ []) i) x.sight) (sym it.1) (sees_next live live_after done next old s new has step sees_live sees_faults restored))
        | inr it ↦ has.sees before asked it.0 it.1
      ];
      within = All-append (IsWithin old new) done (next ∷ []) (within_on done old s new (step_rises dir live live_after s new step) has.within)
          (All-cons (IsWithin old new) next [] (λ i. (omega (arith, sees_faults i, (based i).0, (based i).1), omega (arith, sees_faults i)))
          (All-nil (IsWithin old new)));
    }

-- ---- few lines

-- the parts give one line each, but for an empty last one
few_of_parts : (parts : List Bytes) → length (lines_of_parts parts) ≤ length parts
few_of_parts [] = omega arith
few_of_parts (x ∷ []) = by_empty (length x == 0)
  where
    by_empty : (empty : Bool) → length (if empty then [] else x ∷ []) ≤ 1
    by_empty true = omega arith
    by_empty false = omega arith
few_of_parts (x ∷ y ∷ more) = omega (arith, few_of_parts (y ∷ more))

pub few_lines : FewLines
few_lines bytes =
    let parts : List Bytes = slice_split (λ byte. byte == 10) bytes in
    let few : length parts ≤ length bytes + 1 = omega (arith, length-slice_split (λ byte. byte == 10) bytes, count_by-le-length (λ byte. byte == 10) bytes) in (
      omega (arith, few, few_of_parts parts),
      omega (arith, few, length-map (take (length parts - 1) parts) strip_carriage_return, length-take (length parts - 1) parts),
    )
