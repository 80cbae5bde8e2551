-- What a stop leaves of a segment: the records that were synced, and some first ones of those behind them.
use Rattle.std.proofs.Common.{◌≡◌, ◌⊎◌, inl, inr, ℕ, zero, suc, ◌+◌, ◌<◌, ◌≤◌, ℤ, List, [], ◌∷◌, ◌++◌, length, take, drop, get_or, refl, sym, ◌∙◌, ap, subst, append_assoc, append-nil, arith, length-append, take-append-drop, length-take, take_at}
use Rattle.std.proofs.lemmas.Bool.{cases_order}
use Rattle.std.proofs.lemmas.List.{append_cancel_left}
use Rattle.std.proofs.lemmas.Bool.Decides.{eqb_tells}
use Rattle.nn_host.specs.Disk.{File, Torn}
use Rattle.nn_record.specs.declared.transaction.Record.{Record}
use Rattle.nn_record.specs.Spelling.{spelling}
use Rattle.nn_record.proofs.RecordLemmas.{length-spelling}
use Rattle.nn_segment.specs.Segment.{header, spelled, AreFrom, IsRun, IsIntactRun}
use Rattle.nn_segment.specs.Reaching.{NoneNext}
use Rattle.nn_segment.proofs.RunLemmas.{spelled-cons, none_is_longer}
use Rattle.nn_chain.specs.Fair.{IsFairFile}
use Rattle.nn_segment_file.specs.Log.{segment_text, IsSegment}

-- ---- how long runs are

length-spelled : (rs : List Record) → length rs ≤ length (spelled rs)
length-spelled [] = omega arith
length-spelled (r ∷ rs) = omega (arith, ap length (spelled-cons r rs), length-append (spelling r) (spelled rs), length-spelling r, length-spelled rs)

run_short : (bytes : List ℕ) (layout : ℤ) (first : ℕ) (rs : List Record) → IsRun bytes layout first rs → length rs ≤ length bytes
run_short bytes layout first [] run = omega arith
run_short bytes layout first (r ∷ rs) run = omega (arith, ap length run.2, length-append (header layout ++ spelled (r ∷ rs)) run.1, length-append (header layout) (spelled (r ∷ rs)), length-spelled (r ∷ rs))

-- It can't be that bytes have no intact run.
module _ (bytes : List ℕ) (layout : ℤ) (first : ℕ) where
  longer : (fuel : ℕ) (rs : List Record) → IsRun bytes layout first rs → length bytes < length rs + fuel → ((qs : List Record) → ¬ IsIntactRun bytes layout first qs) → ⊥
  longer zero rs run few none = absurd (omega (arith, run_short bytes layout first rs run, few))
  longer (suc fuel) rs run few none = none rs (record {
    run = run;
    longest = λ qs q_run. elim (cases_order (length qs) (length rs)) [
      | inl same ↦ omega (arith, same)
      | inr (inl less) ↦ omega (arith, less)
      | inr (inr more) ↦ absurd (longer fuel qs q_run (omega (arith, more, few)) none)
    ];
  })

  not_without : ((qs : List Record) → ¬ IsIntactRun bytes layout first qs) → ⊥
  not_without none = longer (suc (length bytes)) [] tt (omega arith) none

-- ---- the records of a segment are its intact run

nothing_next : (id : ℕ) → NoneNext [] id
nothing_next id r rest begins e = absurd (omega (arith, ap length begins.text, length-append (spelling r) rest, length-spelling r))

behind : (bytes : List ℕ) (layout : ℤ) (text after : List ℕ) → bytes ≡ header layout ++ text ++ after → bytes ≡ header layout ++ (text ++ after)
behind bytes layout text after e = e ∙ append_assoc (header layout) text after

-- no run of a segment has more records
none_more : (layout : ℤ) (first : ℕ) (rs qs : List Record) → AreFrom first rs → IsRun (segment_text layout rs) layout first qs → length qs ≤ length rs
none_more layout first rs [] from run = omega arith
none_more layout first [] (q ∷ qs) from run = absurd (omega (arith, ap length run.2, length-append (header layout ++ spelled (q ∷ qs)) run.1, length-append (header layout) (spelled (q ∷ qs)), length-spelled (q ∷ qs)))
none_more layout first (r ∷ rs) (q ∷ qs) from run =
    let texts : spelled (r ∷ rs) ≡ spelled (q ∷ qs) ++ run.1 = append_cancel_left (header layout) (spelled (r ∷ rs)) (spelled (q ∷ qs) ++ run.1) (run.2 ∙ append_assoc (header layout) (spelled (q ∷ qs)) run.1) in
    none_is_longer first (r ∷ rs) (q ∷ qs) [] run.1 from run.0 (append-nil (spelled (r ∷ rs)) ∙ texts) (nothing_next (first + length (r ∷ rs)))

own_run : (layout : ℤ) (first : ℕ) (rs : List Record) (after : List ℕ) → AreFrom first rs → IsRun (segment_text layout rs ++ after) layout first rs
own_run layout first [] after from = tt
own_run layout first (r ∷ rs) after from = (from, after, refl)

pub segment_is_intact : (layout : ℤ) (first : ℕ) (rs : List Record) → AreFrom first rs → IsIntactRun (segment_text layout rs) layout first rs
segment_is_intact layout first rs from = record {
  run = subst (λ (t : List ℕ). IsRun t layout first rs) (append-nil (segment_text layout rs)) (own_run layout first rs [] from);
  longest = λ qs run. none_more layout first rs qs from run;
}

-- ---- the first of some records

pub from_front : (first : ℕ) (rs qs : List Record) → AreFrom first (rs ++ qs) → AreFrom first rs
from_front first [] qs from = tt
from_front first (r ∷ rs) qs from = (from.0, from.1, from_front (first + 1) rs qs from.2)

-- whether bytes begin with a text
begins : (text bytes : List ℕ) → ((after : List ℕ) × (bytes ≡ text ++ after)) ⊎ ((after : List ℕ) → bytes ≡ text ++ after → ⊥)
begins [] bytes = inl (bytes, refl)
begins (t ∷ text) [] = inr (λ after e. cc)
begins (t ∷ text) (b ∷ bytes) = elim (eqb_tells b t) [
  | inr other ↦ inr (λ after e. other.1 (ap (λ (l : List ℕ). get_or l 0 0) e))
  | inl same ↦ elim (begins text bytes) [
    | inl found ↦ inl (found.0, λ i. same.1 i ∷ found.1 i)
    | inr none ↦ inr (λ after e. none after (ap (drop 1) e))
  ]
]

run_or_not : (bytes : List ℕ) (layout : ℤ) (first : ℕ) (rs : List Record) → AreFrom first rs → IsRun bytes layout first rs ⊎ (¬ IsRun bytes layout first rs)
run_or_not bytes layout first [] from = inl tt
run_or_not bytes layout first (r ∷ rs) from = elim (begins (header layout ++ spelled (r ∷ rs)) bytes) [
  | inl found ↦ inl (from, found.0, found.1)
  | inr none ↦ inr (λ run. none run.1 run.2)
]

-- the most of the first records that are a run of these bytes
record Most (bytes : List ℕ) (layout : ℤ) (first : ℕ) (all : List Record) : Type 0 where
  front : List Record
  back : List Record
  split : all ≡ front ++ back
  run : IsRun bytes layout first front
  most : (f b : List Record) → all ≡ f ++ b → IsRun bytes layout first f → length f ≤ length front

module _ (bytes : List ℕ) (layout : ℤ) (first : ℕ) (all : List Record) (from : AreFrom first all) where
  some_of : (n : ℕ) → n ≤ length all → ((f b : List Record) → all ≡ f ++ b → IsRun bytes layout first f → length f ≤ n) → Most bytes layout first all
  some_of zero few bound = record { front = []; back = all; split = refl; run = tt; most = bound }
  some_of (suc n) few bound =
      let front = take (suc n) all in
      let back = drop (suc n) all in
      let split : all ≡ front ++ back = sym (take-append-drop (suc n) all) in
      let size : length front ≡ suc n = omega (arith, length-take (suc n) all, few) in
      elim (run_or_not bytes layout first front (from_front first front back (subst (AreFrom first) split from))) [
        | inl run ↦ record { front = front; back = back; split = split; run = run; most = λ f b e r. omega (arith, bound f b e r, size) }
        | inr none ↦ some_of n (omega (arith, few)) (λ f b e r. elim (eqb_tells (length f) (suc n)) [
          | inl same ↦ absurd (none (subst (IsRun bytes layout first) (sym (take_at f b (suc n) same.1) ∙ ap (take (suc n)) (sym e)) r))
          | inr other ↦ (let le = bound f b e r in let ne = other.1 in grind (arith, le, ne))
        ])
      ]

  most_of : Most bytes layout first all
  most_of = some_of (length all) (omega arith) (λ f b e r. omega (arith, ap length e, length-append f b))

-- ---- what a stop leaves

-- the records that were synced, and some of those behind them
pub record LeftRun (layout : ℤ) (first : ℕ) (kept more : List Record) (bytes : List ℕ) : Type 0 where
  pub run : List Record
  pub lost : List Record
  pub split : kept ++ more ≡ run ++ lost
  pub least : length kept ≤ length run
  pub intact : IsIntactRun bytes layout first run

pub left_run : (layout : ℤ) (first : ℕ) (kept more : List Record) (f : File) (bytes : List ℕ) → IsSegment layout kept more f → AreFrom first (kept ++ more) → Torn f bytes → IsFairFile first f bytes → LeftRun layout first kept more bytes
left_run layout first kept more f bytes is from torn fair = record {
  run = most.front;
  lost = most.back;
  split = most.split;
  least = most.most kept more refl kept_run;
  intact = record { run = most.run; longest = λ qs run. longest qs run };
}
  where
    most : Most bytes layout first (kept ++ more)
    most = most_of bytes layout first (kept ++ more) from

    text : bytes ≡ segment_text layout kept ++ torn.tail
    text = torn.split ∙ ap (λ (t : List ℕ). t ++ torn.tail) is.synced

    kept_run : IsRun bytes layout first kept
    kept_run = subst (λ (t : List ℕ). IsRun t layout first kept) (sym text) (own_run layout first kept torn.tail (from_front first kept more from))

    given : IsIntactRun (f.synced ++ f.pending) layout first (kept ++ more)
    given = subst (λ (t : List ℕ). IsIntactRun t layout first (kept ++ more)) (sym is.whole) (segment_is_intact layout first (kept ++ more) from)

    -- an intact run would be of the first records, and so be one of those that `most` has seen
    no_more : (qs : List Record) → IsRun bytes layout first qs → length most.front < length qs → (rs : List Record) → ¬ IsIntactRun bytes layout first rs
    no_more qs q_run above rs intact =
        let prefix = fair layout rs (kept ++ more) intact given in
        omega (arith, above, intact.longest qs q_run, most.most rs prefix.0 prefix.1 intact.run)

    longest : (qs : List Record) → IsRun bytes layout first qs → length qs ≤ length most.front
    longest qs q_run = elim (cases_order (length qs) (length most.front)) [
      | inl same ↦ omega (arith, same)
      | inr (inl less) ↦ omega (arith, less)
      | inr (inr above) ↦ absurd (not_without bytes layout first (no_more qs q_run above))
    ]
