-- Readers that are put together read back the texts that are put together, and nothing else.
use Rattle.std.proofs.Common.{◌≡◌, ◌^◌, ◌<◌, Bool, true, false, cond, eqb, [], ◌∷◌, ◌++◌, length, Option, Some, None, refl, sym, ap, subst, ◌∙◌, append_assoc, arith, length-append}
use Rattle.std.proofs.lemmas.Bool.{eqb-true}
use Rattle.std.proofs.lemmas.List.{append-nil}
use Rattle.nn_base.specs.Paths.{Bytes}
use Rattle.nn_base.proofs.PlainLemmas.{some_is}
use Rattle.nn_message.specs.Reading.{◌>>=◌, Read, Reader, Spells, ◌then◌, mapped, chosen, only, whole, Gives}

-- ---- what a step gave

pub bind_some : {A B : Type 0} (m : Option A) (f : A → Option B) (y : B) → (m >>= f) ≡ Some y → (x : A) × (m ≡ Some x) × (f x ≡ Some y)
bind_some None f y e = absurd cc
bind_some (Some x) f y e = (x, refl, e)

pub if_some : {A : Type 0} (b : Bool) (m : Option A) (y : A) → cond b m None ≡ Some y → (b ≡ true) × (m ≡ Some y)
if_some true m y e = (refl, e)
if_some false m y e = absurd cc

pub Gives-none : {X : Type 0} (result : Option X) (rest : Bytes) (read : Read X) → result ≡ None → read ≡ None → Gives result rest read
Gives-none {X = X} result rest read none is = subst (λ (r : Option X). Gives r rest read) (sym none) is

-- ---- put together

pub Spells-then : {X Y : Type 0} (r : Reader X) (s : Reader Y) (t : X → Bytes) (u : Y → Bytes) (P : X → Type 0) (Q : Y → Type 0) (E F : Bytes → Type 0)
    → Spells r t P E → Spells s u Q F → ((y : Y) (rest : Bytes) → Q y → F rest → E (u y ++ rest))
    → Spells (r then s) (λ x. t x.0 ++ u x.1) (λ x. P x.0 × Q x.1) F
Spells-then r s t u P Q E F first second joins = record {
  again = λ x rest is ends short.
      let e = append_assoc (t x.0) (u x.1) rest in
      let all : length (t x.0 ++ (u x.1 ++ rest)) < 2 ^ 64 = omega (arith, short, ap length e) in
      let part : length (u x.1 ++ rest) < 2 ^ 64 = omega (arith, all, length-append (t x.0) (u x.1 ++ rest)) in
      ap (λ b. (r then s) b) e ∙ rw (first.again x.0 (u x.1 ++ rest) is.0 (joins x.1 rest is.1 ends) all, second.again x.1 rest is.1 ends part) refl;
  exact = λ bytes found e.
      let a = bind_some (r bytes) _ found e in
      let b = bind_some (s a.0.1) _ found a.2 in
      let p = first.exact bytes a.0 a.1 in
      let q = second.exact a.0.1 b.0 b.1 in
      let whole : bytes ≡ (t a.0.0 ++ u b.0.0) ++ b.0.1 = p.1 ∙ ap (λ z. t a.0.0 ++ z) q.1 ∙ sym (append_assoc (t a.0.0) (u b.0.0) b.0.1) in
      subst (λ z. (P z.0.0 × Q z.0.1) × (bytes ≡ (t z.0.0 ++ u z.0.1) ++ z.1)) (some_is _ found b.2) ((p.0, q.0), whole);
}

pub Spells-chosen : {X Y : Type 0} (r : Reader X) (s : X → Reader Y) (first : Y → X) (t : X → Bytes) (u : Y → Bytes) (P : X → Type 0) (Q : Y → Type 0) (E F : Bytes → Type 0)
    → Spells r t P E → ((x : X) → Spells (s x) u (λ y. Q y × (first y ≡ x)) F) → ((y : Y) (rest : Bytes) → Q y → F rest → E (u y ++ rest))
    → Spells (chosen r s) (λ y. t (first y) ++ u y) (λ y. P (first y) × Q y) F
Spells-chosen r s first t u P Q E F one next joins = record {
  again = λ y rest is ends short.
      let e = append_assoc (t (first y)) (u y) rest in
      let all : length (t (first y) ++ (u y ++ rest)) < 2 ^ 64 = omega (arith, short, ap length e) in
      let part : length (u y ++ rest) < 2 ^ 64 = omega (arith, all, length-append (t (first y)) (u y ++ rest)) in
      ap (λ b. chosen r s b) e ∙ rw (one.again (first y) (u y ++ rest) is.0 (joins y rest is.1 ends) all) ((next (first y)).again y rest (is.1, refl) ends part);
  exact = λ bytes found e.
      let a = bind_some (r bytes) _ found e in
      let p = one.exact bytes a.0 a.1 in
      let q = (next a.0.0).exact a.0.1 found a.2 in
      let same = q.0.1 in
      ((subst P (sym same) p.0, q.0.0), p.1 ∙ (λ i. t (sym same i) ++ q.1 i) ∙ sym (append_assoc (t (first found.0)) (u found.0) found.1));
}

-- what is read may be made into some of the values of another type
pub Spells-into : {X Y : Type 0} (f : X → Y) (from : Y → X) (r : Reader X) (t : X → Bytes) (P : X → Type 0) (Q : Y → Type 0) (E : Bytes → Type 0)
    → ((x : X) → P x → from (f x) ≡ x) → ((x : X) → P x → Q (f x)) → ((y : Y) → Q y → f (from y) ≡ y) → Spells r t P E → Spells (mapped f r) (λ y. t (from y)) (λ y. P (from y) × Q y) E
Spells-into f from r t P Q E back into there one = record {
  again = λ y rest is ends short. rw (one.again (from y) rest is.0 ends short) (ap (λ z. Some (z, rest)) (there y is.1));
  exact = λ bytes found e.
      let a = bind_some (r bytes) _ found e in
      let p = one.exact bytes a.0 a.1 in
      let same = back a.0.0 p.0 in
      subst (λ z. (P (from z.0) × Q z.0) × (bytes ≡ t (from z.0) ++ z.1)) (some_is _ found a.2) ((subst P (sym same) p.0, into a.0.0 p.0), p.1 ∙ ap (λ z. t z ++ a.0.1) (sym same));
}

pub Spells-mapped : {X Y : Type 0} (f : X → Y) (from : Y → X) (r : Reader X) (t : X → Bytes) (P : X → Type 0) (E : Bytes → Type 0)
    → ((x : X) → P x → from (f x) ≡ x) → ((y : Y) → f (from y) ≡ y) → Spells r t P E → Spells (mapped f r) (λ y. t (from y)) (λ y. P (from y)) E
Spells-mapped f from r t P E back there one = record {
  again = λ y rest is ends short. rw (one.again (from y) rest is ends short) (ap (λ z. Some (z, rest)) (there y));
  exact = λ bytes found e.
      let a = bind_some (r bytes) _ found e in
      let p = one.exact bytes a.0 a.1 in
      let same = back a.0.0 p.0 in
      subst (λ z. P (from z.0) × (bytes ≡ t (from z.0) ++ z.1)) (some_is _ found a.2) (subst P (sym same) p.0, p.1 ∙ ap (λ z. t z ++ a.0.1) (sym same));
}

pub Spells-only : {X : Type 0} (is : X → Bool) (r : Reader X) (t : X → Bytes) (P : X → Type 0) (E : Bytes → Type 0) → Spells r t P E → Spells (only is r) t (λ x. P x × (is x ≡ true)) E
Spells-only is r t P E one = record {
  again = λ x rest holds ends short. rw (one.again x rest holds.0 ends short, holds.1) refl;
  exact = λ bytes found e.
      let a = bind_some (r bytes) _ found e in
      let b = if_some (is a.0.0) (Some (a.0.0, a.0.1)) found a.2 in
      let p = one.exact bytes a.0 a.1 in
      subst (λ z. (P z.0 × (is z.0 ≡ true)) × (bytes ≡ t z.0 ++ z.1)) (some_is _ found b.1) ((p.0, b.0), p.1);
}

-- the same by other words
pub Spells-same : {X : Type 0} (r : Reader X) (t u : X → Bytes) (P Q : X → Type 0) (E F : Bytes → Type 0)
    → ((x : X) → P x → t x ≡ u x) → ((x : X) → P x → Q x) → ((x : X) → Q x → P x) → ((rest : Bytes) → F rest → E rest) → Spells r t P E → Spells r u Q F
Spells-same r t u P Q E F same to from ends one = record {
  again = λ x rest is end short.
      let e = ap (λ z. z ++ rest) (same x (from x is)) in
      ap r (sym e) ∙ one.again x rest (from x is) (ends rest end) (omega (arith, short, ap length e));
  exact = λ bytes found e.
      let p = one.exact bytes found e in
      (to found.0 p.0, p.1 ∙ ap (λ z. z ++ found.1) (same found.0 p.0));
}

-- ---- to the end of the bytes

none_left : (rest : Bytes) → eqb (length rest) 0 ≡ true → rest ≡ []
none_left [] e = refl
none_left (b ∷ rest) e = absurd (omega (arith, eqb-true (length (b ∷ rest)) 0 e))

pub whole_again : {X : Type 0} (r : Reader X) (t : X → Bytes) (P : X → Type 0) (E : Bytes → Type 0) → Spells r t P E → E [] → (x : X) → P x → length (t x) < 2 ^ 64 → whole r (t x) ≡ Some x
whole_again r t P E one ends x is short =
    let e = append-nil (t x) in
    let again = one.again x [] is ends (omega (arith, short, ap length e)) in
    ap (whole r) (sym e) ∙ rw again refl

pub whole_exact : {X : Type 0} (r : Reader X) (t : X → Bytes) (P : X → Type 0) (E : Bytes → Type 0) → Spells r t P E → (bytes : Bytes) (x : X) → whole r bytes ≡ Some x → P x × (bytes ≡ t x)
whole_exact r t P E one bytes x e =
    let a = bind_some (r bytes) _ x e in
    let b = if_some _ (Some a.0.0) x a.2 in
    let p = one.exact bytes a.0 a.1 in
    let all : bytes ≡ t a.0.0 = p.1 ∙ ap (λ z. t a.0.0 ++ z) (none_left a.0.1 b.0) ∙ append-nil (t a.0.0) in
    subst (λ z. P z × (bytes ≡ t z)) (some_is _ x b.1) (p.0, all)
