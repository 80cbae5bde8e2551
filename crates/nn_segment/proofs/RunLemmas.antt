-- Records that stand one after the other: there is one way to read them, and so one longest run.
use Rattle.std.proofs.Common.{◌≡◌, ℕ, zero, suc, get_or, ◌+◌, ◌-◌, ◌<◌, ◌≤◌, ℤ, true, false, cond, nat_eq, inl, inr, List, [], ◌∷◌, ◌++◌, length, drop, take, Option, refl, sym, ap, subst, ◌∙◌, append_assoc, arith, length-append}
use Rattle.std.proofs.lemmas.Bool.{cases_Bool}
use Rattle.std.proofs.lemmas.List.{take_at, drop_at, take_all, take-append-drop, length-drop}
use Rattle.std.specs.Cmp.Lexicographic.{pointwise, same_text, other_text}
use Rattle.nn_record.specs.declared.transaction.Record.{Record}
use Rattle.nn_record.specs.Spelling.{spelling, IsRecord, Begins}
use Rattle.nn_record.proofs.RecordLemmas.{none_begins_another}
use Rattle.nn_segment.specs.Segment.{header, has_header, spelled, AreFrom, IsRun, IsIntactRun, OneIntactRun, ReachesFrame, last_id, end_of}
use Rattle.nn_segment.specs.Reaching.{NoneNext, BeginWith, IsWhole, IsAll, ReachFrame}

-- ---- the spellings of records

pub spelled-nil : spelled [] ≡ []
unfolding spelled
spelled-nil = refl

pub spelled-cons : (r : Record) (rs : List Record) → spelled (r ∷ rs) ≡ spelling r ++ spelled rs
unfolding spelled
spelled-cons r rs = refl

none_spelled : (rest : List ℕ) → spelled [] ++ rest ≡ rest
unfolding spelled
none_spelled rest = refl

pub one_spelled : (r : Record) (rs : List Record) (rest : List ℕ) → spelled (r ∷ rs) ++ rest ≡ spelling r ++ (spelled rs ++ rest)
one_spelled r rs rest = ap (λ t. t ++ rest) (spelled-cons r rs) ∙ append_assoc (spelling r) (spelled rs) rest

-- ---- one record after the other

first_same : (r q : Record) (rs qs : List Record) (rest after : List ℕ) → IsRecord r → IsRecord q → spelled (r ∷ rs) ++ rest ≡ spelled (q ∷ qs) ++ after → (r ≡ q) × (spelled rs ++ rest ≡ spelled qs ++ after)
first_same r q rs qs rest after r_is q_is e =
    none_begins_another r q (spelled rs ++ rest) (spelled qs ++ after) r_is q_is (sym (one_spelled r rs rest) ∙ e ∙ one_spelled q qs after)

-- where no further record stands behind some, no others are more
pub none_is_longer : (first : ℕ) (rs qs : List Record) (rest after : List ℕ) → AreFrom first rs → AreFrom first qs → spelled rs ++ rest ≡ spelled qs ++ after → NoneNext rest (first + length rs) → length qs ≤ length rs
none_is_longer first rs [] rest after rs_from qs_from e none = omega arith
none_is_longer first [] (q ∷ qs) rest after rs_from qs_from e none =
    let begins : Begins rest q (spelled qs ++ after) = record { formed = qs_from.1; text = sym (none_spelled rest) ∙ e ∙ one_spelled q qs after } in
    absurd (none q (spelled qs ++ after) begins (omega (arith, qs_from.0)))
none_is_longer first (r ∷ rs) (q ∷ qs) rest after rs_from qs_from e none =
    let same = first_same r q rs qs rest after rs_from.1 qs_from.1 e in
    let next : first + length (r ∷ rs) ≡ first + 1 + length rs = omega arith in
    omega (arith, none_is_longer (first + 1) rs qs rest after rs_from.2 qs_from.2 same.1 (subst (NoneNext rest) next none))

-- each record has the id of its place
pub id_at : (first : ℕ) (rs : List Record) (k : ℕ) (d : Record) → AreFrom first rs → k < length rs → (get_or rs k d).id ≡ first + k
id_at first [] k d from lt = absurd (omega arith)
id_at first (r ∷ rs) zero d from lt = omega (arith, from.0)
id_at first (r ∷ rs) (suc k) d from lt = omega (arith, id_at (first + 1) rs k d from.2 (omega arith))

-- as many records are the same
same_records : (first : ℕ) (rs qs : List Record) (rest after : List ℕ) → AreFrom first rs → AreFrom first qs → spelled rs ++ rest ≡ spelled qs ++ after → length rs ≡ length qs → rs ≡ qs
same_records first [] [] rest after rs_from qs_from e n = refl
same_records first [] (q ∷ qs) rest after rs_from qs_from e n = absurd (omega arith)
same_records first (r ∷ rs) [] rest after rs_from qs_from e n = absurd (omega arith)
same_records first (r ∷ rs) (q ∷ qs) rest after rs_from qs_from e n =
    let same = first_same r q rs qs rest after rs_from.1 qs_from.1 e in
    let others = same_records (first + 1) rs qs rest after rs_from.2 qs_from.2 same.1 (omega arith) in
    λ i. same.0 i ∷ others i

-- ---- the rest of a slice

pub rest_is : (bytes : List ℕ) (end : ℕ) → take (length bytes - end) (drop end bytes) ≡ drop end bytes
rest_is bytes end = take_all (length bytes - end) (drop end bytes) (omega (arith, length-drop end bytes))

-- ---- the header

pub length-header : (layout : ℤ) → length (header layout) ≡ 8
unfolding header
length-header layout = refl

header_there : (bytes : List ℕ) (layout : ℤ) → has_header bytes layout ≡ true → bytes ≡ header layout ++ drop 8 bytes
unfolding has_header
header_there bytes layout h =
    let front : header layout ≡ take (length (header layout)) bytes = same_text _ _ (sym h) in
    let eight : header layout ≡ take 8 bytes = front ∙ ap (λ n. take n bytes) (length-header layout) in
    sym (take-append-drop 8 bytes) ∙ ap (λ t. t ++ drop 8 bytes) (sym eight)

header_seen : (bytes : List ℕ) (layout : ℤ) (after : List ℕ) → bytes ≡ header layout ++ after → has_header bytes layout ≡ true
unfolding has_header
header_seen bytes layout after e =
    let front : take (length (header layout)) bytes ≡ header layout = ap (take (length (header layout))) e ∙ take_at (header layout) after (length (header layout)) refl in
    elim (cases_Bool (pointwise nat_eq (header layout) (take (length (header layout)) bytes))) [
      | inl same ↦ same
      | inr other ↦ absurd (other_text _ _ (sym other) (sym front))
    ]

pub header_within : (bytes : List ℕ) (layout : ℤ) → has_header bytes layout ≡ true → 8 ≤ length bytes
header_within bytes layout h = omega (arith, ap length (header_there bytes layout h), length-append (header layout) (drop 8 bytes), length-header layout)

-- ---- the intact run

pub behind_header : (bytes : List ℕ) (layout : ℤ) (text after : List ℕ) → bytes ≡ header layout ++ text ++ after → drop 8 bytes ≡ text ++ after
behind_header bytes layout text after e = ap (drop 8) (e ∙ append_assoc (header layout) text after) ∙ drop_at (header layout) (text ++ after) 8 (length-header layout)

run_begins : (bytes : List ℕ) (layout : ℤ) (first : ℕ) (rs : List Record) → has_header bytes layout ≡ true → IsRun bytes layout first rs → BeginWith (drop 8 bytes) first rs
run_begins bytes layout first [] h run = record { ids = tt; after = drop 8 bytes; text = sym (none_spelled (drop 8 bytes)) }
run_begins bytes layout first (r ∷ rs) h run = record { ids = run.0; after = run.1; text = behind_header bytes layout (spelled (r ∷ rs)) run.1 run.2 }

pub run_from : (bytes : List ℕ) (layout : ℤ) (first : ℕ) (rs : List Record) → IsRun bytes layout first rs → AreFrom first rs
run_from bytes layout first [] run = tt
run_from bytes layout first (r ∷ rs) run = run.0

begun_run : (bytes : List ℕ) (layout : ℤ) (first : ℕ) (rs : List Record) → has_header bytes layout ≡ true → BeginWith (drop 8 bytes) first rs → IsRun bytes layout first rs
begun_run bytes layout first [] h begin = tt
begun_run bytes layout first (r ∷ rs) h begin =
    (begin.ids, begin.after, header_there bytes layout h ∙ ap (λ t. header layout ++ t) begin.text ∙ sym (append_assoc (header layout) (spelled (r ∷ rs)) begin.after))

pub whole_is_intact : (bytes : List ℕ) (layout : ℤ) (first : ℕ) (rs : List Record) → has_header bytes layout ≡ true → IsWhole (drop 8 bytes) first rs → IsIntactRun bytes layout first rs
whole_is_intact bytes layout first rs h whole = record {
  run = begun_run bytes layout first rs h whole.begin;
  longest = λ qs run. whole.longest qs (run_begins bytes layout first qs h run);
}

none_runs : (bytes : List ℕ) (layout : ℤ) (first : ℕ) (qs : List Record) → has_header bytes layout ≡ false → IsRun bytes layout first qs → length qs ≤ 0
none_runs bytes layout first [] h run = omega arith
none_runs bytes layout first (q ∷ qs) h run =
    let seen = header_seen bytes layout (spelled (q ∷ qs) ++ run.1) (run.2 ∙ append_assoc (header layout) (spelled (q ∷ qs)) run.1) in
    let apart = sym h ∙ seen in
    absurd cc

pub nothing_is_intact : (bytes : List ℕ) (layout : ℤ) (first : ℕ) → has_header bytes layout ≡ false → IsIntactRun bytes layout first []
nothing_is_intact bytes layout first h = record { run = tt; longest = λ qs run. none_runs bytes layout first qs h run }

same_runs : (bytes : List ℕ) (layout : ℤ) (first : ℕ) (rs qs : List Record) → IsRun bytes layout first rs → IsRun bytes layout first qs → length rs ≡ length qs → rs ≡ qs
same_runs bytes layout first [] [] x y n = refl
same_runs bytes layout first [] (q ∷ qs) x y n = absurd (omega arith)
same_runs bytes layout first (r ∷ rs) [] x y n = absurd (omega arith)
same_runs bytes layout first (r ∷ rs) (q ∷ qs) x y n =
    same_records first (r ∷ rs) (q ∷ qs) x.1 y.1 x.0 y.0 (sym (behind_header bytes layout (spelled (r ∷ rs)) x.1 x.2) ∙ behind_header bytes layout (spelled (q ∷ qs)) y.1 y.2) n

pub one_intact_run : OneIntactRun
one_intact_run bytes layout first rs qs x y = same_runs bytes layout first rs qs x.run y.run (omega (arith, x.longest qs y.run, y.longest rs x.run))

-- ---- what is told of it

pub told_run : (bytes : List ℕ) (layout : ℤ) (first : ℕ) (last : Option ℕ) (len : ℕ) → has_header bytes layout ≡ true → IsAll (drop 8 bytes) first last len
    → (rs : List Record) × IsIntactRun bytes layout first rs × (last ≡ last_id rs) × (8 + len ≡ end_of bytes layout rs)
told_run bytes layout first last len h all =
    let rs = all.0 in
    (rs, whole_is_intact bytes layout first rs h all.1, all.2, ap (λ n. 8 + n) all.3 ∙ ap (λ b. cond b (8 + length (spelled rs)) 0) (sym h))

pub told_within : (bytes : List ℕ) (layout : ℤ) (first : ℕ) (last : Option ℕ) (len : ℕ) → has_header bytes layout ≡ true → IsAll (drop 8 bytes) first last len → 8 + len ≤ length bytes
told_within bytes layout first last len h all =
    let begin = all.1.begin in
    omega (arith, all.3, header_within bytes layout h, ap length begin.text, length-append (spelled all.0) begin.after, length-drop 8 bytes)

pub told_frame : (bytes : List ℕ) (layout : ℤ) (first : ℕ) → has_header bytes layout ≡ true → ReachFrame (drop 8 bytes) first → ReachesFrame bytes layout first
told_frame bytes layout first h reach = record {
  rs = reach.rs;
  after = reach.begin.after;
  ids = reach.begin.ids;
  text = header_there bytes layout h ∙ ap (λ t. header layout ++ t) reach.begin.text ∙ sym (append_assoc (header layout) (spelled reach.rs) reach.begin.after);
  frame = reach.frame;
}
