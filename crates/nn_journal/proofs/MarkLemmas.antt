-- What the steps do: the records and bytes that go behind a segment, and the stage that they lead to.
use Rattle.std.proofs.Common.{◌≡◌, inl, inr, ℕ, ℤ, ◌+◌, ◌≤◌, ◌==◌, Bool, true, false, List, [], ◌∷◌, ◌++◌, length, refl, sym, ◌∙◌, ap, subst, arith, length-append, append-nil}
use Rattle.std.proofs.lemmas.Bool.Decides.{eqb_tells}
use Rattle.nn_base.specs.Limits.{most_segment}
use Rattle.nn_marks.specs.declared.version.Version.{Version}
use Rattle.nn_record.specs.declared.transaction.Record.{Record}
use Rattle.nn_record.specs.Spelling.{spelling, body_bytes, IsRecord}
use Rattle.nn_record.proofs.RecordLemmas.{length-spelling}
use Rattle.nn_segment.specs.Segment.{header, spelled}
use Rattle.nn_segment.proofs.RunLemmas.{spelled-cons, spelled-nil}
use Rattle.nn_segment_file.specs.Log.{Shared, segment_text}
use Rattle.nn_segment_file.specs.Steps.{GoesOn}
use Rattle.nn_segment_file.specs.Stages.{Ended, Going, Does, Starts, Adds}
use Rattle.nn_segment_file.specs.declared.step.Step.TheVariants as step
use Rattle.nn_segment_file.proofs.StepLemmas.{adds_more}
use Rattle.nn_journal.specs.Places.{Place, end_record, start_record, IsSteady, IsInProgress, most_unended}

-- ---- bytes of records

length-end : (id : ℕ) → length (spelling (end_record id)) ≡ 17
unfolding body_bytes
length-end id = length-spelling (end_record id)

pub length-start : (id : ℕ) → length (spelling (start_record id)) ≡ 17
unfolding body_bytes
length-start id = length-spelling (start_record id)

pub length-header : (layout : ℤ) → length (header layout) ≡ 8
unfolding header
length-header layout = refl

pub one_spelled : (r : Record) → spelled (r ∷ []) ≡ spelling r
one_spelled r = spelled-cons r [] ∙ ap (λ t. spelling r ++ t) spelled-nil ∙ append-nil (spelling r)

-- records without a byte are none
pub none_logged : (rs : List Record) → spelled rs ≡ [] → rs ≡ []
none_logged [] e = refl
none_logged (r ∷ rs) e = absurd (omega (arith, ap length e, ap length (spelled-cons r rs), length-append (spelling r) (spelled rs), length-spelling r))

pub some_logged : (rs : List Record) → 1 ≤ length (spelled rs) → 1 ≤ length rs
some_logged [] some = absurd (omega (arith, ap length spelled-nil, some))
some_logged (r ∷ rs) some = omega arith

-- ---- what each step does

module _ (version : Version) (list : Shared) where
  module _ (base : ℕ) (kept : List Record) (place : Place) (p : IsInProgress version list base kept [] [] place) where
    ended_at : place.last ≡ base + length kept
    ended_at = omega (arith, p.last)

    pub end_goes : place.size ≤ most_unended → IsRecord (end_record (place.last + 1)) → GoesOn version list base kept (end_record (place.last + 1) ∷ []) place.first (spelling (end_record (place.last + 1)))
    end_goes small is =
        let r = end_record (place.last + 1) in
        let adds : segment_text version.layout (kept ++ r ∷ []) ≡ segment_text version.layout kept ++ spelling r = adds_more version.layout kept (r ∷ []) p.some ∙ ap (λ t. segment_text version.layout kept ++ t) (one_spelled r) in
        record {
          begins = p.first;
          some = omega arith;
          adds = adds;
          ids = (omega (arith, ended_at), is, tt);
          follows = (tt, subst (λ (n : ℕ). list (n + 1) ≡ list n) ended_at (p.steady place.last (omega arith)), tt);
          small = omega (arith, ap length adds, length-append (segment_text version.layout kept) (spelling r), length-end (place.last + 1), p.size, small);
        }

    pub end_count : place.last + 1 ≡ base + length (kept ++ end_record (place.last + 1) ∷ [])
    end_count = omega (arith, ended_at, length-append kept (end_record (place.last + 1) ∷ []))

  pub start_does : (head : List ℕ) (last : ℕ) → header version.layout ≡ head → IsSteady list last → IsRecord (start_record (last + 1))
      → Does version list step.Start (last + 1) (head ++ spelling (start_record (last + 1))) (Ended last) (Going last (start_record (last + 1) ∷ []))
  start_does head last same steady is =
      let r = start_record (last + 1) in
      let adds : header version.layout ++ spelled (r ∷ []) ≡ head ++ spelling r = (λ i. same i ++ one_spelled r i) in
      Starts (record {
        begins = refl;
        some = omega arith;
        adds = adds;
        ids = (omega arith, is, tt);
        follows = (tt, subst (λ (n : ℕ). list (n + 1) ≡ list n) (omega arith) (steady last (omega arith)), tt);
        small = omega (arith, ap length adds, length-append head (spelling r), length-start (last + 1), ap length same, length-header version.layout);
      })

  module _ (base : ℕ) (kept logged : List Record) (bytes : List ℕ) (place : Place) (p : IsInProgress version list base kept logged bytes place) where
    logged_adds : segment_text version.layout (kept ++ logged) ≡ segment_text version.layout kept ++ bytes
    logged_adds = adds_more version.layout kept logged p.some ∙ ap (λ t. segment_text version.layout kept ++ t) (sym p.text)

    pub logged_size : length (segment_text version.layout (kept ++ logged)) ≡ place.size + length bytes
    logged_size = omega (arith, ap length logged_adds, length-append (segment_text version.layout kept) bytes, p.size)

    pub write_does : 1 ≤ length bytes → place.size + length bytes ≤ most_segment → Does version list step.Write place.first bytes (Going base kept) (Going base (kept ++ logged))
    write_does some small = Adds (record {
      begins = p.first;
      some = some_logged logged (omega (arith, some, ap length p.text));
      adds = logged_adds;
      ids = p.ids;
      follows = p.follows;
      small = omega (arith, logged_size, small);
    })

-- ---- whether the buffer is empty

pub no_items : {A : Type 0} (items : List A) → length items ≡ 0 → items ≡ []
no_items [] e = refl
no_items (x ∷ items) e = absurd (omega (arith, e))

pub empty_items : {A : Type 0} (items : List A) (n : ℕ) (result : Bool) → length items ≡ n → result ≡ (n == 0) → result ≡ true → items ≡ []
empty_items items n result size is empty = elim (eqb_tells n 0) [
  | inl same ↦ no_items items (size ∙ same.1)
  | inr other ↦ absurd (let apart = sym empty ∙ is ∙ other.0 in cc)
]

pub some_items : {A : Type 0} (items : List A) (n : ℕ) (result : Bool) → length items ≡ n → result ≡ (n == 0) → result ≡ false → 1 ≤ length items
some_items items n result size is some = elim (eqb_tells n 0) [
  | inl same ↦ absurd (let apart = sym some ∙ is ∙ same.0 in cc)
  | inr other ↦ (let ne = other.1 in grind (arith, ne, size))
]
