-- A field that is read is the one that stands there, and no fault does.
use Rattle.std.proofs.Common.{◌≡◌, ℕ, ◌+◌, ◌-◌, ◌*◌, ◌/◌, ◌%◌, ◌<◌, ◌≤◌, ◌⊎◌, List, ◌++◌, length, get_or, take, drop, append_assoc, length-append, length-drop, length-take, Result, Ok, Err, refl, sym, ap, subst, ◌∙◌, inl, inr, arith}
use Rattle.std.specs.Prelude.{◌↔◌, IfOk, IfErr}
use Rattle.std.proofs.lemmas.Bool.{cases_lt}
use Rattle.std.proofs.lemmas.List.{drop-drop, take-append-drop, get_or-drop}
use Rattle.nn_wire.specs.declared.fault.WireFault.{WireFault}
use Rattle.nn_wire.specs.declared.field.Field.{Field}
use Rattle.nn_wire.specs.declared.field.Kind.{Kind}
use Rattle.nn_wire.specs.declared.field.Kind.TheVariants.{Varint, Bytes}
use Rattle.nn_wire.specs.Varint.{varint, Begins}
use Rattle.nn_wire.specs.Field.{IsNumber, kind_code, IsVarintAt, AreBytesAt, IsFieldAt}
use Rattle.nn_wire.specs.Fault.{IsVarintFault, IsKey, IsFieldFault, in_key, is_no_key, in_value, past_end}
use Rattle.nn_wire.proofs.SpellingLemmas.{spelled_last, spelled_more, varint_some}
use Rattle.nn_wire.proofs.FaultLemmas.{one_begins, no_fault, one_fault}

-- ---- what was read stands there

pub read_varint : (bytes : List ℕ) (at after number value start : ℕ) → IsNumber number
    → Begins (drop at bytes) (8 * number) (drop after bytes) → after ≡ at + length (varint (8 * number))
    → Begins (drop after bytes) value (drop start bytes) → start ≡ after + length (varint value)
    → IsVarintAt bytes at (record { number = number; value = value; start = start; end = start })
read_varint bytes at after number value start numbered key after_is shown start_is = record {
  number = numbered;
  value = shown.small;
  text = key.text ∙ ap (λ t. varint (8 * number) ++ t) shown.text ∙ sym (append_assoc (varint (8 * number)) (varint value) (drop start bytes));
  start = refl;
  end = omega (arith, after_is, start_is, length-append (varint (8 * number)) (varint value));
}

pub read_bytes : (bytes : List ℕ) (at after number value start : ℕ) → IsNumber number
    → Begins (drop at bytes) (8 * number + 2) (drop after bytes) → after ≡ at + length (varint (8 * number + 2))
    → Begins (drop after bytes) value (drop start bytes) → start ≡ after + length (varint value) → value ≤ length bytes - start
    → AreBytesAt bytes at (record { number = number; value = value; start = start; end = start + value }) (take value (drop start bytes))
read_bytes bytes at after number value start numbered key after_is shown start_is within =
    let content = take value (drop start bytes) in
    let left = drop (start + value) bytes in
    let whole : value ≡ length content = omega (arith, length-take value (drop start bytes), length-drop start bytes) in
    let parts : drop start bytes ≡ content ++ left = sym (take-append-drop value (drop start bytes)) ∙ ap (λ t. content ++ t) (drop-drop value start bytes) in
    let rest : drop after bytes ≡ varint (length content) ++ (content ++ left) = shown.text ∙ (λ i. varint (whole i) ++ parts i) in
    let joined : (varint (8 * number + 2) ++ (varint (length content) ++ content)) ++ left ≡ varint (8 * number + 2) ++ (varint (length content) ++ (content ++ left)) =
    append_assoc (varint (8 * number + 2)) (varint (length content) ++ content) left ∙ ap (λ t. varint (8 * number + 2) ++ t) (append_assoc (varint (length content)) content left) in
    record {
      number = numbered;
      value = whole;
      small = shown.small;
      text = key.text ∙ ap (λ t. varint (8 * number + 2) ++ t) rest ∙ sym joined;
      start = omega (arith, whole);
      end = omega (arith, after_is, start_is, whole, ap (λ n. length (varint n)) whole, length-append (varint (8 * number + 2)) (varint (length content) ++ content), length-append (varint (length content)) content);
    }

-- ---- a field by its parts, the same for both kinds

pub record Parts (bytes : List ℕ) (at : ℕ) (field : Field) : Type 0 where
  pub key : ℕ
  pub rest : List ℕ
  pub left : List ℕ
  pub is_key : IsKey key
  pub number : field.number ≡ key / 8
  pub begins : Begins (drop at bytes) key rest
  pub shown : Begins rest field.value left
  pub start : field.start ≡ at + length (varint key) + length (varint field.value)
  pub end : ((key % 8 ≡ 0) × (field.end ≡ field.start)) ⊎ ((key % 8 ≡ 2) × (field.end ≡ field.start + field.value) × (field.value ≤ length left))

Parts-varint : (bytes : List ℕ) (at : ℕ) (field : Field) → IsVarintAt bytes at field → Parts bytes at field
Parts-varint bytes at field is =
    let key = 8 * field.number in
    let same : key / 8 ≡ field.number = omega arith in
    record {
      key = key;
      rest = varint field.value ++ drop field.end bytes;
      left = drop field.end bytes;
      is_key = (subst IsNumber (sym same) is.number, inl (omega arith));
      number = sym same;
      begins = record { small = omega (arith, is.number.1); text = is.text ∙ append_assoc (varint key) (varint field.value) (drop field.end bytes) };
      shown = record { small = is.value; text = refl };
      start = omega (arith, is.start, is.end, length-append (varint key) (varint field.value));
      end = inl (omega arith, sym is.start);
    }

Parts-bytes : (bytes : List ℕ) (at : ℕ) (field : Field) (content : List ℕ) → AreBytesAt bytes at field content → Parts bytes at field
Parts-bytes bytes at field content are =
    let key = 8 * field.number + 2 in
    let same : key / 8 ≡ field.number = omega arith in
    let left = content ++ drop field.end bytes in
    record {
      key = key;
      rest = varint (length content) ++ left;
      left = left;
      is_key = (subst IsNumber (sym same) are.number, inr (omega arith));
      number = sym same;
      begins = record {
        small = omega (arith, are.number.1);
        text = are.text ∙ append_assoc (varint key) (varint (length content) ++ content) (drop field.end bytes) ∙ ap (λ t. varint key ++ t) (append_assoc (varint (length content)) content (drop field.end bytes));
      };
      shown = record { small = are.small; text = ap (λ n. varint n ++ left) (sym are.value) };
      start = omega (arith, are.value, are.start, are.end, ap (λ n. length (varint n)) are.value, length-append (varint key) (varint (length content) ++ content), length-append (varint (length content)) content);
      end = inr (omega arith, omega (arith, are.value, are.start), omega (arith, are.value, length-append content (drop field.end bytes)));
    }

pub parts_of : (bytes : List ℕ) (at : ℕ) (field : Field) → IsFieldAt bytes at field → Parts bytes at field
parts_of bytes at field is = elim is [ inl v ↦ Parts-varint bytes at field v | inr b ↦ Parts-bytes bytes at field b.0 b.1 ]

-- ---- what is wrong

pub key_says : (key number : ℕ) (kind : Kind) → IsNumber number → key ≡ 8 * number + kind_code kind → IsKey key
key_says key number Varint numbered is = let same : number ≡ key / 8 = omega arith in (subst IsNumber same numbered, inl (omega arith))
key_says key number Bytes numbered is = let same : number ≡ key / 8 = omega arith in (subst IsNumber same numbered, inr (omega arith))

-- a field stands there and none of its parts is wrong
parts_no_fault : (bytes : List ℕ) (at : ℕ) (field : Field) (fault : WireFault) → Parts bytes at field → IsFieldFault (drop at bytes) fault → ⊥
parts_no_fault bytes at field fault parts wrong = elim wrong [
  | in_key none ↦ no_fault (drop at bytes) parts.key parts.rest fault parts.begins none
  | is_no_key key rest begins none is ↦ none (subst IsKey (one_begins (drop at bytes) parts.key key parts.rest rest parts.begins begins).0 parts.is_key)
  | in_value key rest begins is_key none ↦
      let same = one_begins (drop at bytes) parts.key key parts.rest rest parts.begins begins in
      no_fault rest field.value parts.left fault (subst (λ t. Begins t field.value parts.left) same.1 parts.shown) none
  | past_end key rest len left begins is_key kind shown short is ↦
      let same = one_begins (drop at bytes) parts.key key parts.rest rest parts.begins begins in
      let value = one_begins rest field.value len parts.left left (subst (λ t. Begins t field.value parts.left) same.1 parts.shown) shown in
      elim parts.end [ inl v ↦ omega (arith, v.0, same.0) | inr b ↦ omega (arith, b.2, value.0, ap length value.1) ]
]

pub field_no_fault : (bytes : List ℕ) (at : ℕ) (field : Field) (fault : WireFault) → IsFieldAt bytes at field → IsFieldFault (drop at bytes) fault → ⊥
field_no_fault bytes at field fault is wrong = parts_no_fault bytes at field fault (parts_of bytes at field is) wrong

no_key_twice : (bytes : List ℕ) (key other : ℕ) (rest more : List ℕ) → Begins bytes key rest → ¬ IsKey key → Begins bytes other more → IsKey other → ⊥
no_key_twice bytes key other rest more begins none also is_key = none (subst IsKey (one_begins bytes other key more rest also begins).0 is_key)

none_after : (bytes : List ℕ) (key other n : ℕ) (rest more left : List ℕ) (fault : WireFault) → Begins bytes key rest → IsVarintFault rest fault → Begins bytes other more → Begins more n left → ⊥
none_after bytes key other n rest more left fault begins none also shown =
    no_fault rest n left fault (subst (λ t. Begins t n left) (one_begins bytes other key more rest also begins).1 shown) none

pub one_field_fault : (bytes : List ℕ) (f g : WireFault) → IsFieldFault bytes f → IsFieldFault bytes g → f ≡ g
one_field_fault bytes f g (in_key a) (in_key b) = one_fault bytes f g a b
one_field_fault bytes f g (in_key a) (is_no_key key rest begins none is) = absurd (no_fault bytes key rest f begins a)
one_field_fault bytes f g (in_key a) (in_value key rest begins is_key none) = absurd (no_fault bytes key rest f begins a)
one_field_fault bytes f g (in_key a) (past_end key rest len left begins is_key kind shown short is) = absurd (no_fault bytes key rest f begins a)
one_field_fault bytes f g (is_no_key key rest begins none is) (in_key b) = absurd (no_fault bytes key rest g begins b)
one_field_fault bytes f g (is_no_key key rest begins none is) (is_no_key key' rest' begins' none' is') = is ∙ sym is'
one_field_fault bytes f g (is_no_key key rest begins none is) (in_value key' rest' begins' is_key none') = absurd (no_key_twice bytes key key' rest rest' begins none begins' is_key)
one_field_fault bytes f g (is_no_key key rest begins none is) (past_end key' rest' len left begins' is_key kind shown short is') = absurd (no_key_twice bytes key key' rest rest' begins none begins' is_key)
one_field_fault bytes f g (in_value key rest begins is_key none) (in_key b) = absurd (no_fault bytes key rest g begins b)
one_field_fault bytes f g (in_value key rest begins is_key none) (is_no_key key' rest' begins' none' is') = absurd (no_key_twice bytes key' key rest' rest begins' none' begins is_key)
one_field_fault bytes f g (in_value key rest begins is_key none) (in_value key' rest' begins' is_key' none') =
    one_fault rest f g none (subst (λ t. IsVarintFault t g) (one_begins bytes key' key rest' rest begins' begins).1 none')
one_field_fault bytes f g (in_value key rest begins is_key none) (past_end key' rest' len left begins' is_key' kind shown short is') = absurd (none_after bytes key key' len rest rest' left f begins none begins' shown)
one_field_fault bytes f g (past_end key rest len left begins is_key kind shown short is) (in_key b) = absurd (no_fault bytes key rest g begins b)
one_field_fault bytes f g (past_end key rest len left begins is_key kind shown short is) (is_no_key key' rest' begins' none' is') = absurd (no_key_twice bytes key' key rest' rest begins' none' begins is_key)
one_field_fault bytes f g (past_end key rest len left begins is_key kind shown short is) (in_value key' rest' begins' is_key' none') = absurd (none_after bytes key' key len rest' rest left g begins' none' begins shown)
one_field_fault bytes f g (past_end key rest len left begins is_key kind shown short is) (past_end key' rest' len' left' begins' is_key' kind' shown' short' is') = is ∙ sym is'

-- ---- one field stands there

pub field_within : (bytes : List ℕ) (at : ℕ) (field : Field) → at ≤ length bytes → IsFieldAt bytes at field → (at < field.start) × (field.start ≤ field.end) × (field.end ≤ length bytes)
field_within bytes at field inside is =
    let parts = parts_of bytes at field is in
    let key = varint_some parts.key in
    let whole : length bytes - at ≡ length (varint parts.key) + length parts.rest = sym (length-drop at bytes) ∙ ap length parts.begins.text ∙ length-append (varint parts.key) parts.rest in
    let value : length parts.rest ≡ length (varint field.value) + length parts.left = ap length parts.shown.text ∙ length-append (varint field.value) parts.left in
    let ends : (field.start ≤ field.end) × (field.end ≤ field.start + length parts.left) = elim parts.end [
      | inl v ↦ (omega (arith, v.1), omega (arith, v.1))
      | inr b ↦ (omega (arith, b.1), omega (arith, b.1, b.2))
    ] in
    (omega (arith, key, parts.start), ends.0, omega (arith, ends.1, parts.start))

pub one_field : (bytes : List ℕ) (at : ℕ) (f g : Field) → IsFieldAt bytes at f → IsFieldAt bytes at g → f ≡ g
one_field bytes at f g f_is g_is =
    let p = parts_of bytes at f f_is in
    let q = parts_of bytes at g g_is in
    let key = one_begins (drop at bytes) p.key q.key p.rest q.rest p.begins q.begins in
    let value = one_begins q.rest f.value g.value p.left q.left (subst (λ t. Begins t f.value p.left) key.1 p.shown) q.shown in
    let number : f.number ≡ g.number = p.number ∙ ap (λ k. k / 8) key.0 ∙ sym q.number in
    let start : f.start ≡ g.start = p.start ∙ (λ i. at + length (varint (key.0 i)) + length (varint (value.0 i))) ∙ sym q.start in
    let end : f.end ≡ g.end = elim p.end [
      | inl v ↦ elim q.end [ inl w ↦ v.1 ∙ start ∙ sym w.1 | inr b ↦ absurd (omega (arith, v.0, b.0, key.0)) ]
      | inr b ↦ elim q.end [ inl w ↦ absurd (omega (arith, w.0, b.0, key.0)) | inr d ↦ omega (arith, b.1, d.1, start, value.0) ]
    ] in
    λ i. record { number = number i; value = value.0 i; start = start i; end = end i }

pub field_again : (r : Result Field WireFault) (bytes : List ℕ) (at : ℕ) (field : Field) → IfOk r (IsFieldAt bytes at) → IfErr r (IsFieldFault (drop at bytes)) → IsFieldAt bytes at field → r ≡ Ok field
field_again (Ok other) bytes at field ok err is = ap (λ f. Ok f) (one_field bytes at other field ok is)
field_again (Err fault) bytes at field ok err is = absurd (field_no_fault bytes at field fault is err)

pub field_cause : (r : Result Field WireFault) (bytes : List ℕ) (at : ℕ) (fault : WireFault) → IfOk r (IsFieldAt bytes at) → IfErr r (IsFieldFault (drop at bytes)) → IsFieldFault (drop at bytes) fault → r ≡ Err fault
field_cause (Ok other) bytes at fault ok err wrong = absurd (field_no_fault bytes at other fault ok wrong)
field_cause (Err other) bytes at fault ok err wrong = ap (λ f. Err f) (one_field_fault (drop at bytes) other fault err wrong)

-- ---- the kind shows in the first byte

first_byte : (k : ℕ) (rest : List ℕ) → get_or (varint k ++ rest) 0 0 % 8 ≡ k % 8
unfolding varint
first_byte k rest = elim (cases_lt k 128) [
  | inl low ↦ ap (λ t. get_or (t ++ rest) 0 0 % 8) (spelled_last 9 k low)
  | inr high ↦ ap (λ t. get_or (t ++ rest) 0 0 % 8) (spelled_more 9 k high) ∙ omega arith
]

kind_shown : (bytes : List ℕ) (at key : ℕ) (text rest : List ℕ) → drop at bytes ≡ varint key ++ text ++ rest → get_or bytes at 0 % 8 ≡ key % 8
kind_shown bytes at key text rest is =
    let here : at + 0 ≡ at = omega arith in
    ap (λ k. get_or bytes k 0 % 8) (sym here) ∙ ap (λ b. b % 8) (sym (get_or-drop at bytes 0 0))
    ∙ ap (λ t. get_or t 0 0 % 8) (is ∙ append_assoc (varint key) text rest) ∙ first_byte key (text ++ rest)

pub field_kind : (bytes : List ℕ) (at : ℕ) (field : Field) → IsFieldAt bytes at field → (get_or bytes at 0 % 8 ≡ 0) ↔ IsVarintAt bytes at field
field_kind bytes at field is = (
  (λ e. elim is [ inl v ↦ v | inr b ↦ absurd (omega (arith, e, kind_shown bytes at (8 * field.number + 2) _ _ b.1.text)) ]),
  (λ v. kind_shown bytes at (8 * field.number) _ _ v.text ∙ omega arith),
)
