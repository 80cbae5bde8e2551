-- What the last id of a segment's records says of the others.
use Rattle.std.proofs.Common.{◌≡◌, ℕ, ◌+◌, ◌-◌, ◌<◌, ◌≤◌, ℤ, Bool, true, false, nat_le, if◌then◌else◌, List, [], ◌∷◌, length, get_or, Contains, Option, Some, None, Ok, Err, refl, sym, ◌∙◌, ap, subst, arith, le-leb, leb-true}
use Rattle.std.specs.Prelude.{IfSome}
use Rattle.std.proofs.lemmas.Option.{same_Some, none-some}
use Rattle.std.proofs.lemmas.List.Elements.{Contains-get_or}
use Rattle.nn_base.specs.Limits.{most_segment_read}
use Rattle.nn_base.specs.declared.file_name.FileName.{FileName}
use Rattle.nn_base.specs.FileText.{IsInRange}
use Rattle.nn_record.specs.declared.transaction.Record.{Record}
use Rattle.nn_segment.specs.Segment.{AreFrom, IsIntactRun, last_id}
use Rattle.nn_segment.proofs.RunLemmas.{run_from, id_at, one_intact_run}
use Rattle.nn_small.specs.declared.read.ReadAll.{ReadAll}
use Rattle.nn_small.specs.declared.read.ReadAll.TheVariants.{TooLarge}
use Rattle.nn_small.specs.Whole.{whole_of}
use Rattle.nn_chain.specs.Folder.{Folder}
use Rattle.nn_chain.specs.Records.{first_in, IsWithin, HoldsRecord}
use Rattle.nn_tidy.specs.Fates.{ReadTo}

-- ---- records of consecutive ids

-- the last id tells how many they are
end_is : (first : ℕ) (rs : List Record) (last : ℕ) → AreFrom first rs → last_id rs ≡ Some last → first + length rs ≡ last + 1
end_is first [] last ids e = absurd (none-some last e)
end_is first (r ∷ []) last ids e = (let same = same_Some r.id last e in omega (arith, ids.0, same))
end_is first (r ∷ s ∷ rs) last ids e = (let more = end_is (first + 1) (s ∷ rs) last ids.2 e in omega (arith, more))

some_last : (rs : List Record) (r : Record) → Contains rs r → last_id rs ≡ None → ⊥
some_last [] r has e = omega (arith, has.1)
some_last (q ∷ []) r has e = none-some q.id (sym e)
some_last (q ∷ s ∷ rs) r has e = some_last (s ∷ rs) s (0, omega arith, refl) e

pub none_before_first : (first : ℕ) (rs : List Record) (last : ℕ) → AreFrom first rs → last_id rs ≡ Some last → first ≤ last
none_before_first first [] last ids e = absurd (none-some last e)
none_before_first first (r ∷ rs) last ids e = (let more = end_is first (r ∷ rs) last ids e in omega (arith, more))

-- a record of each id from the first to the last
record_at : (first : ℕ) (rs : List Record) (last id : ℕ) → AreFrom first rs → last_id rs ≡ Some last → first ≤ id → id ≤ last → (r : Record) × Contains rs r × (r.id ≡ id)
record_at first [] last id ids e low high = absurd (none-some last e)
record_at first (r ∷ rs) last id ids e low high =
    let count = end_is first (r ∷ rs) last ids e in
    let lt : id - first < length (r ∷ rs) = omega (arith, count, low, high) in
    let is = id_at first (r ∷ rs) (id - first) r ids lt in
    (get_or (r ∷ rs) (id - first) r, Contains-get_or (r ∷ rs) (id - first) r lt, omega (arith, is, low))

-- and none of a later one
record_below : (first : ℕ) (rs : List Record) (last : ℕ) (r : Record) → AreFrom first rs → last_id rs ≡ Some last → Contains rs r → r.id ≤ last
record_below first rs last r ids e has =
    let count = end_is first rs last ids e in
    let at = id_at first rs has.0 r ids has.1 in
    let is = ap (λ (q : Record). q.id) has.2 in
    omega (arith, count, at, is, has.1)

-- ---- a file that was read

module _ (folder : Folder) (layout : ℤ) (n : FileName) (first : ℕ) (begins : first_in n ≡ Some first) where
  -- it holds no record where there is none
  pub empty_holds : ReadTo folder layout n first None → (r : Record) → HoldsRecord folder layout n r → ⊥
  empty_holds read r h = some_last read.run r (read.only begins r h) (sym read.last_is)

  module _ (last : ℕ) (read : ReadTo folder layout n first (Some last)) where
    pub read_holds : IsInRange n → (id : ℕ) → first ≤ id → id ≤ last → IsWithin n id → (r : Record) × (r.id ≡ id) × HoldsRecord folder layout n r
    read_holds ranged id low high within =
        let it = record_at first read.run last id read.ids (sym read.last_is) low high in
        (it.0, it.2, read.holds ranged begins it.0 it.1 (subst (IsWithin n) (sym it.2) within))

    pub read_below : (r : Record) → HoldsRecord folder layout n r → r.id ≤ last
    read_below r h = record_below first read.run last r read.ids (sym read.last_is) (read.only begins r h)

-- ---- by what reading it answered

read_whole : (file : Option (List ℕ)) (bytes : List ℕ) → whole_of most_segment_read file ≡ Ok bytes → (file ≡ Some bytes) × (length bytes ≤ most_segment_read)
read_whole None bytes e = cc
read_whole (Some text) bytes e = by (nat_le (length text) most_segment_read) refl e
  where
    by : (b : Bool) → nat_le (length text) most_segment_read ≡ b → (if b then Ok text else Err (TooLarge (length text))) ≡ Ok bytes → (Some text ≡ Some bytes) × (length bytes ≤ most_segment_read)
    by true small e = let same : text ≡ bytes = cc in (λ i. Some (same i), subst (λ (t : List ℕ). length t ≤ most_segment_read) same (leb-true _ _ small))
    by false large e = cc

module _ (folder : Folder) (layout : ℤ) (n : FileName) (first : ℕ) where
  pub file_read : (bytes : List ℕ) (last : Option ℕ) (run : List Record) → whole_of most_segment_read (folder n) ≡ Ok bytes → IsIntactRun bytes layout first run → last ≡ last_id run → ReadTo folder layout n first last
  file_read bytes last run whole intact last_is = record {
    run = run;
    ids = run_from bytes layout first run intact.run;
    last_is = last_is;
    holds = λ ranged begins r has within. record { ranged = ranged; first = first; begins = begins; bytes = bytes; there = it.0; small = it.1; run = run; intact = intact; has = has; within = within };
    only = λ begins r h.
        let first_is : h.first ≡ first = same_Some h.first first (sym h.begins ∙ begins) in
        let bytes_are : h.bytes ≡ bytes = same_Some h.bytes bytes (sym h.there ∙ it.0) in
        let its : IsIntactRun bytes layout first h.run = subst (λ (t : List ℕ). IsIntactRun t layout first h.run) bytes_are (subst (λ k. IsIntactRun h.bytes layout k h.run) first_is h.intact) in
        subst (λ (rs : List Record). Contains rs r) (one_intact_run bytes layout first h.run run its intact) h.has;
  }
    where
      it : (folder n ≡ Some bytes) × (length bytes ≤ most_segment_read)
      it = read_whole (folder n) bytes whole

  -- absent, or too long
  pub none_read : (fault : ReadAll) → whole_of most_segment_read (folder n) ≡ Err fault → ReadTo folder layout n first None
  none_read fault unread = record {
    run = [];
    ids = tt;
    last_is = refl;
    holds = λ ranged begins r has within. absurd (omega (arith, has.1));
    only = λ begins r h.
        let whole : whole_of most_segment_read (Some h.bytes) ≡ Ok h.bytes = ap (λ b. if b then Ok h.bytes else Err (TooLarge (length h.bytes))) (le-leb _ _ h.small) in
        let other = sym whole ∙ ap (whole_of most_segment_read) (sym h.there) ∙ unread in
        cc;
  }

-- the last record of an intact run has an id from the first on
pub some_last_from : (first : ℕ) (bytes : List ℕ) (layout : ℤ) (run : List Record) (last : Option ℕ) → IsIntactRun bytes layout first run → last ≡ last_id run → IfSome last (λ id. first ≤ id)
some_last_from first bytes layout run None intact e = tt
some_last_from first bytes layout run (Some id) intact e = none_before_first first run id (run_from bytes layout first run intact.run) (sym e)
