-- Fields, delimited messages and what may be missing: what is spelled so is read again, and nothing else is read.
use Rattle.std.proofs.Common.{◌≡◌, ℕ, ◌+◌, ◌*◌, ◌^◌, ◌<◌, ◌≤◌, Bool, true, false, cond, eqb, ltb, [], ◌++◌, length, take, drop, Option, Some, None, refl, sym, ap, subst, ◌∙◌, append_assoc, arith, length-append}
use Rattle.std.specs.Prelude.{IfSome}
use Rattle.std.proofs.lemmas.Bool.{eq-eqb, eqb-true, le-ltb, ltb-false}
use Rattle.std.proofs.lemmas.List.{take_at, drop_at, take-append-drop, length-take-le}
use Rattle.nn_base.specs.Paths.{Bytes}
use Rattle.nn_base.proofs.PlainLemmas.{some_is}
use Rattle.nn_wire.specs.Varint.{varint}
use Rattle.nn_wire.specs.Field.{varint_field, bytes_field}
use Rattle.nn_message.specs.Messages.{IsVarintNumber}
use Rattle.nn_message.specs.Spelling.{delimited}
use Rattle.nn_message.specs.Reading.{Reader, Spells, Anywhere, mapped, number_at, keyed, varint_field_at, delimited_at, bytes_field_at, whole, within, inside, field_with, has_key, maybe}
use Rattle.nn_message.proofs.SpellsLemmas.{bind_some, if_some, whole_again, whole_exact}
use Rattle.nn_message.proofs.NumberLemmas.{number_again, number_exact, Spells-number}

if_none : {A : Type 0} (b : Bool) (m : Option A) (y : A) → cond b None m ≡ Some y → (b ≡ false) × (m ≡ Some y)
if_none false m y e = (refl, e)
if_none true m y e = absurd cc

pub Spells-keyed : {X : Type 0} (key : ℕ) (r : Reader X) (t : X → Bytes) (P : X → Type 0) (E : Bytes → Type 0) → key < 2 ^ 64 → Spells r t P E → Spells (keyed key r) (λ x. varint key ++ t x) P E
Spells-keyed key r t P E small one = record {
  again = λ x rest is ends short.
      let e = append_assoc (varint key) (t x) rest in
      let part : length (t x ++ rest) < 2 ^ 64 = omega (arith, short, ap length e, length-append (varint key) (t x ++ rest)) in
      ap (keyed key r) e ∙ rw (number_again key (t x ++ rest) small, eq-eqb key key refl) (one.again x rest is ends part);
  exact = λ bytes found e.
      let a = bind_some (number_at bytes) _ found e in
      let b = if_some (eqb a.0.0 key) (r a.0.1) found a.2 in
      let p = number_exact bytes a.0 a.1 in
      let q = one.exact a.0.1 found b.1 in
      let same = eqb-true a.0.0 key b.0 in
      (q.0, p.1 ∙ (λ i. varint (same i) ++ q.1 i) ∙ sym (append_assoc (varint key) (t found.0) found.1));
}

pub Spells-varint_field : (number : ℕ) → 8 * number < 2 ^ 64 → Spells (varint_field_at number) (varint_field number) IsVarintNumber Anywhere
unfolding varint_field_at
Spells-varint_field number small = Spells-keyed (8 * number) number_at varint IsVarintNumber Anywhere small Spells-number

-- ---- bytes behind their length

pub Spells-delimited : Spells delimited_at delimited (λ content. Unit {0}) Anywhere
unfolding delimited_at delimited
Spells-delimited = record {
  again = λ content rest is ends short.
      let len = length content in
      let e = append_assoc (varint len) content rest in
      let fits : len < 2 ^ 64 = omega (arith, short, length-append (varint len ++ content) rest, length-append (varint len) content) in
      let enough : ltb (length (content ++ rest)) len ≡ false = le-ltb _ _ (omega (arith, length-append content rest)) in
      ap delimited_at e ∙ rw (number_again len (content ++ rest) fits, enough, take_at content rest len refl, drop_at content rest len refl) refl;
  exact = λ bytes found e.
      let a = bind_some (number_at bytes) _ found e in
      let b = if_none (ltb (length a.0.1) a.0.0) (Some (take a.0.0 a.0.1, drop a.0.0 a.0.1)) found a.2 in
      let p = number_exact bytes a.0 a.1 in
      let content = take a.0.0 a.0.1 in
      let left = drop a.0.0 a.0.1 in
      let len : a.0.0 ≡ length content = sym (length-take-le a.0.0 a.0.1 (ltb-false (length a.0.1) a.0.0 b.0)) in
      let all : bytes ≡ (varint (length content) ++ content) ++ left =
      p.1 ∙ (λ i. varint (len i) ++ sym (take-append-drop a.0.0 a.0.1) i) ∙ sym (append_assoc (varint (length content)) content left) in
      (tt, subst (λ z. bytes ≡ (varint (length z.0) ++ z.0) ++ z.1) (some_is _ found b.1) all);
}

pub Spells-bytes_field : (number : ℕ) → 8 * number + 2 < 2 ^ 64 → Spells (bytes_field_at number) (bytes_field number) (λ content. Unit {0}) Anywhere
unfolding bytes_field_at delimited
Spells-bytes_field number small = Spells-keyed (8 * number + 2) delimited_at delimited (λ content. Unit {0}) Anywhere small Spells-delimited

-- ---- messages behind their length, and in fields

pub Spells-within : {X : Type 0} (content : Reader Bytes) (u : Bytes → Bytes) (r : Reader X) (t : X → Bytes) (P : X → Type 0) (E : Bytes → Type 0)
    → Spells content u (λ c. Unit {0}) Anywhere → ((c : Bytes) → length c ≤ length (u c)) → E [] → Spells r t P E → Spells (within content r) (λ x. u (t x)) P Anywhere
Spells-within content u r t P E outer longer ends one = record {
  again = λ x rest is end short.
      let part : length (t x) < 2 ^ 64 = omega (arith, short, length-append (u (t x)) rest, longer (t x)) in
      rw (outer.again (t x) rest tt tt short, whole_again r t P E one ends x is part) refl;
  exact = λ bytes found e.
      let a = bind_some (content bytes) _ found e in
      let b = bind_some (whole r a.0.0) _ found a.2 in
      let p = (outer.exact bytes a.0 a.1).1 in
      let q = whole_exact r t P E one a.0.0 b.0 b.1 in
      subst (λ z. P z.0 × (bytes ≡ u (t z.0) ++ z.1)) (some_is _ found b.2) (q.0, p ∙ ap (λ m. u m ++ a.0.1) q.1);
}

delimited_longer : (content : Bytes) → length content ≤ length (delimited content)
unfolding delimited
delimited_longer content = omega (arith, length-append (varint (length content)) content)

pub Spells-inside : {X : Type 0} (r : Reader X) (t : X → Bytes) (P : X → Type 0) (E : Bytes → Type 0) → E [] → Spells r t P E → Spells (inside r) (λ x. delimited (t x)) P Anywhere
Spells-inside r t P E ends one = Spells-within delimited_at delimited r t P E Spells-delimited delimited_longer ends one

pub Spells-field_with : {X : Type 0} (number : ℕ) (r : Reader X) (t : X → Bytes) (P : X → Type 0) (E : Bytes → Type 0) → 8 * number + 2 < 2 ^ 64 → E [] → Spells r t P E
    → Spells (field_with number r) (λ x. bytes_field number (t x)) P Anywhere
Spells-field_with number r t P E small ends one =
    Spells-within (bytes_field_at number) (bytes_field number) r t P E (Spells-bytes_field number small)
    (λ c. omega (arith, length-append (varint (8 * number + 2)) (varint (length c) ++ c), length-append (varint (length c)) c)) ends one

-- ---- what may be missing

abbrev pub text_or_none : {X : Type 0} → (X → Bytes) → Option X → Bytes
text_or_none t None = []
text_or_none t (Some x) = t x

maybe_exact : {X : Type 0} (r : Reader X) (t : X → Bytes) (P : X → Type 0) (E : Bytes → Type 0) → Spells r t P E → (b : Bool) (bytes : Bytes) (found : Option X × Bytes)
    → cond b (mapped (λ x. Some x) r bytes) (Some (None, bytes)) ≡ Some found → IfSome found.0 P × (bytes ≡ text_or_none t found.0 ++ found.1)
maybe_exact r t P E one true bytes found e =
    let a = bind_some (r bytes) _ found e in
    let p = one.exact bytes a.0 a.1 in
    subst (λ z. IfSome z.0 P × (bytes ≡ text_or_none t z.0 ++ z.1)) (some_is _ found a.2) p
maybe_exact {X = X} r t P E one false bytes found e =
    let none : Option X × Bytes = (None, bytes) in
    subst (λ z. IfSome z.0 P × (bytes ≡ text_or_none t z.0 ++ z.1)) (some_is none found e) (tt, refl)

maybe_again : {X : Type 0} (key : ℕ) (r : Reader X) (t : X → Bytes) (P : X → Type 0) (E : Bytes → Type 0) → Spells r t P E → ((x : X) (rest : Bytes) → has_key key (t x ++ rest) ≡ true)
    → (o : Option X) (rest : Bytes) → IfSome o P → E rest × (has_key key rest ≡ false) → length (text_or_none t o ++ rest) < 2 ^ 64 → maybe key r (text_or_none t o ++ rest) ≡ Some (o, rest)
maybe_again key r t P E one keys None rest is ends short = rw ends.1 refl
maybe_again key r t P E one keys (Some x) rest is ends short = rw (keys x rest, one.again x rest is ends.0 short) refl

-- A text that begins with the key may be missing before what doesn't.
pub Spells-maybe : {X : Type 0} (key : ℕ) (r : Reader X) (t : X → Bytes) (P : X → Type 0) (E : Bytes → Type 0) → Spells r t P E → ((x : X) (rest : Bytes) → has_key key (t x ++ rest) ≡ true)
    → Spells (maybe key r) (text_or_none t) (λ o. IfSome o P) (λ rest. E rest × (has_key key rest ≡ false))
Spells-maybe key r t P E one keys = record {
  again = maybe_again key r t P E one keys;
  exact = λ bytes found e. maybe_exact r t P E one (has_key key bytes) bytes found e;
}
