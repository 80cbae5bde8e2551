-- The first place whose byte passes a test, as `position` tells it.
use Rattle.std.proofs.Common.{◌≡◌, ℕ, zero, suc, ◌+◌, ◌<◌, ◌≤◌, Bool, true, false, cond, nat_lt, List, [], ◌∷◌, length, get_or, Option, Some, None, refl, sym, ap, ◌∙◌, arith, inl, inr, lt-ltb, le-ltb}
use Rattle.std.specs.List.{position, position_or_len}
use Rattle.std.proofs.lemmas.Bool.{cases_Bool}
use Rattle.memchr.specs.Find.{IsFirstByte}

first_at : (p : ℕ → Bool) (hay : List ℕ) (k : ℕ) → k < length hay → p (get_or hay k 0) ≡ true → ((j : ℕ) → j < k → p (get_or hay j 0) ≡ true → ⊥) → position_or_len p hay ≡ k
first_at p [] k within here before = absurd (omega arith)
first_at p (x ∷ hay) zero within here before = rw here refl
first_at p (x ∷ hay) (suc k) within here before = elim (cases_Bool (p x)) [
  | inl e ↦ absurd (before 0 (omega arith) e)
  | inr e ↦ let rest = first_at p hay k (omega arith) here (λ j below. before (suc j) (omega arith)) in rw (e, rest) (omega arith)
]

none_at : (p : ℕ → Bool) (hay : List ℕ) → ((j : ℕ) → j < length hay → p (get_or hay j 0) ≡ true → ⊥) → position_or_len p hay ≡ length hay
none_at p [] none = refl
none_at p (x ∷ hay) none = elim (cases_Bool (p x)) [
  | inl e ↦ absurd (none 0 (omega arith) e)
  | inr e ↦ let rest = none_at p hay (λ j below. none (suc j) (omega arith)) in rw (e, rest) (omega arith)
]

told : (p : ℕ → Bool) (hay : List ℕ) (n : ℕ) → position_or_len p hay ≡ n → position p hay ≡ cond (nat_lt n (length hay)) (Some n) None
told p hay n e = ap (λ (m : ℕ). cond (nat_lt m (length hay)) (Some m) None) e

pub first_is_position : (p : ℕ → Bool) (hay : List ℕ) (r : Option ℕ) → IsFirstByte p hay r → r ≡ position p hay
first_is_position p hay None h =
    let e : nat_lt (length hay) (length hay) ≡ false = le-ltb _ _ (omega arith) in
    sym (told p hay (length hay) (none_at p hay (λ j below. h j (omega arith) below)) ∙ ap (λ b. cond b (Some (length hay)) None) e)
first_is_position p hay (Some k) h =
    let n = h.0 in
    let e : nat_lt k (length hay) ≡ true = lt-ltb _ _ n.high in
    sym (told p hay k (first_at p hay k n.high h.1 (λ j below. n.before j (omega arith) below)) ∙ ap (λ b. cond b (Some k) None) e)
