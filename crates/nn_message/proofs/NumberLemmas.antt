-- A number that is spelled is read again, and nothing else is read as a number.
use Rattle.std.proofs.Common.{◌≡◌, ℕ, zero, suc, ◌+◌, ◌-◌, ◌*◌, ◌/◌, ◌%◌, ◌^◌, ◌<◌, ◌&&◌, Bool, true, false, ◌++◌, Option, Some, None, refl, ap, subst, ◌∙◌, inl, inr, arith}
use Rattle.std.proofs.lemmas.Bool.{cases_lt, lt-ltb, le-ltb, ltb-true}
use Rattle.std.proofs.lemmas.Slice.Eq.{bytes_eq-Decides}
use Rattle.nn_base.specs.Paths.{Bytes}
use Rattle.nn_base.proofs.PlainLemmas.{some_is}
use Rattle.nn_wire.specs.Varint.{spelled_within, varint, Begins}
use Rattle.nn_wire.proofs.SpellingLemmas.{room, spelled_last, spelled_more}
use Rattle.nn_message.specs.Messages.{IsVarintNumber}
use Rattle.nn_message.specs.Reading.{worth_at, number_at, Spells, Anywhere}
use Rattle.nn_message.proofs.SpellsLemmas.{bind_some, if_some}

worth_again : (k n : ℕ) (rest : Bytes) → n < room (suc k) → worth_at (spelled_within (suc k) n ++ rest) ≡ Some (n, rest)
unfolding worth_at room
worth_again zero n rest fits =
    let low : n < 128 = omega arith in
    ap (λ t. worth_at (t ++ rest)) (spelled_last zero n low) ∙ rw (lt-ltb n 128 low) refl
worth_again (suc k) n rest fits = elim (cases_lt n 128) [
  | inl low ↦ ap (λ t. worth_at (t ++ rest)) (spelled_last (suc k) n low) ∙ rw (lt-ltb n 128 low) refl
  | inr high ↦
      let whole : n % 128 + 128 - 128 + 128 * (n / 128) ≡ n = omega arith in
      ap (λ t. worth_at (t ++ rest)) (spelled_more (suc k) n high)
      ∙ rw (le-ltb (n % 128 + 128) 128 (omega arith), worth_again k (n / 128) rest (omega arith)) (ap (λ m. Some (m, rest)) whole)
]

pub number_again : (n : ℕ) (rest : Bytes) → n < 2 ^ 64 → number_at (varint n ++ rest) ≡ Some (n, rest)
unfolding number_at varint room
number_again n rest small =
    let same = (bytes_eq-Decides (varint n ++ rest) (varint n ++ rest)).1 refl in
    rw (worth_again 9 n rest small, lt-ltb n (2 ^ 64) small, same) refl

both_true : (a b : Bool) → (a && b) ≡ true → (a ≡ true) × (b ≡ true)
both_true true b e = (refl, e)
both_true false b e = absurd cc

pub number_exact : (bytes : Bytes) (found : ℕ × Bytes) → number_at bytes ≡ Some found → IsVarintNumber found.0 × (bytes ≡ varint found.0 ++ found.1)
unfolding number_at
number_exact bytes found e =
    let a = bind_some (worth_at bytes) _ found e in
    let b = if_some _ _ found a.2 in
    let c = both_true _ _ b.0 in
    subst (λ z. (z.0 < 2 ^ 64) × (bytes ≡ varint z.0 ++ z.1)) (some_is _ found b.1) (ltb-true a.0.0 (2 ^ 64) c.0, (bytes_eq-Decides bytes (varint a.0.0 ++ a.0.1)).0 c.1)

pub Spells-number : Spells number_at varint IsVarintNumber Anywhere
Spells-number = record { again = λ n rest is ends short. number_again n rest is; exact = number_exact }

-- ---- a varint that was got, or none

pub number_begins : (bytes : Bytes) (n : ℕ) (rest : Bytes) → Begins bytes n rest → number_at bytes ≡ Some (n, rest)
number_begins bytes n rest is = ap number_at is.text ∙ number_again n rest is.small

no_number : (bytes : Bytes) (m : Option (ℕ × Bytes)) → number_at bytes ≡ m → ((n : ℕ) (rest : Bytes) → ¬ Begins bytes n rest) → number_at bytes ≡ None
no_number bytes None e none = e
no_number bytes (Some found) e none =
    let p = number_exact bytes found e in
    absurd (none found.0 found.1 (record { small = p.0; text = p.1 }))

pub number_none : (bytes : Bytes) → ((n : ℕ) (rest : Bytes) → ¬ Begins bytes n rest) → number_at bytes ≡ None
number_none bytes none = no_number bytes (number_at bytes) refl none
