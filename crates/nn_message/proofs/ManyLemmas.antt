-- What repeats is read one by one.
use Rattle.std.proofs.Common.{◌≡◌, ℕ, zero, suc, ◌^◌, ◌<◌, Bool, true, false, cond, List, [], ◌∷◌, ◌++◌, length, Some, refl, sym, ap, subst, ◌∙◌, append_assoc, arith, length-append}
use Rattle.std.specs.List.{flat_map, All}
use Rattle.std.proofs.lemmas.List.Elements.{All-nil, All-cons, All-head, All-tail}
use Rattle.nn_base.specs.Paths.{Bytes}
use Rattle.nn_base.proofs.PlainLemmas.{some_is}
use Rattle.nn_message.specs.Reading.{◌>>=◌, Reader, Spells, Anywhere, many_within, many}
use Rattle.nn_message.proofs.SpellsLemmas.{bind_some}

-- a text is there, and shows that there is more
pub record Repeats {X : Type 0} (more : Bytes → Bool) (r : Reader X) (t : X → Bytes) (P : X → Type 0) : Type 0 where
  pub spells : Spells r t P Anywhere
  pub some : (x : X) → P x → 0 < length (t x)
  pub shows : (x : X) (rest : Bytes) → P x → more (t x ++ rest) ≡ true

many_within_again : {X : Type 0} (more : Bytes → Bool) (r : Reader X) (t : X → Bytes) (P : X → Type 0) → Repeats more r t P
    → (room : ℕ) (xs : List X) (rest : Bytes) → All P xs → more rest ≡ false → length (flat_map t xs ++ rest) < 2 ^ 64 → length (flat_map t xs ++ rest) < room
    → many_within room more r (flat_map t xs ++ rest) ≡ Some (xs, rest)
unfolding many_within
many_within_again more r t P one zero xs rest all ends short fits = absurd (omega arith)
many_within_again more r t P one (suc room) [] rest all ends short fits = rw ends refl
many_within_again more r t P one (suc room) (x ∷ xs) rest all ends short fits =
    let is = All-head P x xs all in
    let left = flat_map t xs ++ rest in
    let e = append_assoc (t x) (flat_map t xs) rest in
    let whole : length (t x ++ left) < 2 ^ 64 = omega (arith, short, ap length e) in
    let part : length left < 2 ^ 64 = omega (arith, whole, length-append (t x) left) in
    let fewer : length left < room = omega (arith, fits, ap length e, length-append (t x) left, one.some x is) in
    ap (many_within (suc room) more r) e
    ∙ rw (one.shows x left is, one.spells.again x left is tt whole, many_within_again more r t P one room xs rest (All-tail P x xs all) ends part fewer) refl

abbrev Found : {X : Type 0} → (X → Bytes) → (X → Type 0) → Bytes → List X × Bytes → Type 0
Found t P bytes found = All P found.0 × (bytes ≡ flat_map t found.0 ++ found.1)

abbrev FoundWithin : {X : Type 0} → ℕ → (Bytes → Bool) → Reader X → (X → Bytes) → (X → Type 0) → Type 0
FoundWithin {X = X} room more r t P = (bytes : Bytes) (found : List X × Bytes) → many_within room more r bytes ≡ Some found → Found t P bytes found

found_next : {X : Type 0} (more : Bytes → Bool) (r : Reader X) (t : X → Bytes) (P : X → Type 0) → Spells r t P Anywhere → (room : ℕ) → FoundWithin room more r t P
    → (b : Bool) (bytes : Bytes) (found : List X × Bytes) → cond b (r bytes >>= λ x. many_within room more r x.1 >>= λ xs. Some (x.0 ∷ xs.0, xs.1)) (Some ([], bytes)) ≡ Some found → Found t P bytes found
found_next more r t P one room rest true bytes found e =
    let a = bind_some (r bytes) _ found e in
    let b = bind_some (many_within room more r a.0.1) _ found a.2 in
    let p = one.exact bytes a.0 a.1 in
    let q = rest a.0.1 b.0 b.1 in
    let whole : bytes ≡ (t a.0.0 ++ flat_map t b.0.0) ++ b.0.1 = p.1 ∙ ap (λ z. t a.0.0 ++ z) q.1 ∙ sym (append_assoc (t a.0.0) (flat_map t b.0.0) b.0.1) in
    subst (Found t P bytes) (some_is _ found b.2) (All-cons P a.0.0 b.0.0 p.0 q.0, whole)
found_next {X = X} more r t P one room rest false bytes found e =
    let none : List X × Bytes = ([], bytes) in
    subst (Found t P bytes) (some_is none found e) (All-nil P, refl)

many_within_exact : {X : Type 0} (more : Bytes → Bool) (r : Reader X) (t : X → Bytes) (P : X → Type 0) → Spells r t P Anywhere → (room : ℕ) → FoundWithin room more r t P
unfolding many_within
many_within_exact more r t P one zero bytes found e = absurd cc
many_within_exact more r t P one (suc room) bytes found e = found_next more r t P one room (many_within_exact more r t P one room) (more bytes) bytes found e

pub Spells-many : {X : Type 0} (more : Bytes → Bool) (r : Reader X) (t : X → Bytes) (P : X → Type 0) → Repeats more r t P → Spells (many more r) (flat_map t) (All P) (λ rest. more rest ≡ false)
unfolding many
Spells-many more r t P one = record {
  again = λ xs rest all ends short. many_within_again more r t P one (suc (length (flat_map t xs ++ rest))) xs rest all ends short (omega arith);
  exact = λ bytes found e. many_within_exact more r t P one.spells (suc (length bytes)) bytes found e;
}
