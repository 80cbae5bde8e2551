-- A spelling by its first byte, and that no spelling begins another.
use Rattle.std.proofs.Common.{◌≡◌, ℕ, zero, suc, ◌+◌, ◌-◌, ◌*◌, ◌/◌, ◌%◌, ◌^◌, ◌<◌, ◌≤◌, ◌⊎◌, List, [], ◌∷◌, ◌++◌, length, take, set, append_assoc, cond, refl, sym, ap, ◌∙◌, inl, inr, arith}
use Rattle.std.proofs.lemmas.Bool.{cases_lt, lt-ltb, le-ltb}
use Rattle.std.proofs.lemmas.List.{take_more_set}
use Rattle.nn_wire.specs.Varint.{spelled_within, varint}

-- what k bytes spell is below this: seven bits in each, but the last has one alone
unfoldable pub room : ℕ → ℕ
room zero = 0
room (suc zero) = 2
room (suc (suc k)) = 128 * room (suc k)

pub room_ten : room 10 ≡ 2 ^ 64
unfolding room
room_ten = refl

pub room_more : (k : ℕ) → room (suc (suc k)) ≡ 128 * room (suc k)
unfolding room
room_more k = refl

pub two_fit : (k : ℕ) → 2 ≤ room (suc k)
unfolding room
two_fit zero = omega arith
two_fit (suc k) = omega (arith, two_fit k)

-- ---- the first byte

pub spelled_last : (k n : ℕ) → n < 128 → spelled_within (suc k) n ≡ n ∷ []
unfolding spelled_within
spelled_last k n low = ap (λ b. cond b (n ∷ []) ((n % 128 + 128) ∷ spelled_within k (n / 128))) (lt-ltb n 128 low)

pub spelled_more : (k n : ℕ) → 128 ≤ n → spelled_within (suc k) n ≡ (n % 128 + 128) ∷ spelled_within k (n / 128)
unfolding spelled_within
spelled_more k n high = ap (λ b. cond b (n ∷ []) ((n % 128 + 128) ∷ spelled_within k (n / 128))) (le-ltb n 128 high)

-- a byte that says that another follows, with the spelling of what is above it
pub spelled_joined : (k b h : ℕ) → 128 ≤ b → b < 256 → 0 < h → spelled_within (suc k) (b - 128 + 128 * h) ≡ b ∷ spelled_within k h
spelled_joined k b h more byte some =
    let n = b - 128 + 128 * h in
    let first : n % 128 + 128 ≡ b = omega arith in
    let above : n / 128 ≡ h = omega arith in
    spelled_more k n (omega arith) ∙ (λ i. first i ∷ spelled_within k (above i))

-- the two ways in which a text with that first byte goes along with a spelling
pub record IsLast (n b : ℕ) (t x : List ℕ) : Type 0 where
  pub low : n < 128
  pub first : b ≡ n
  pub rest : t ≡ x

pub record GoesOn (k n b : ℕ) (t x : List ℕ) : Type 0 where
  pub high : 128 ≤ n
  pub first : b ≡ n % 128 + 128
  pub rest : t ≡ spelled_within k (n / 128) ++ x

pub by_first : (k n b : ℕ) (t x : List ℕ) → b ∷ t ≡ spelled_within (suc k) n ++ x → IsLast n b t x ⊎ GoesOn k n b t x
by_first k n b t x e = elim (cases_lt n 128) [
  | inl low ↦
      let f : b ∷ t ≡ n ∷ x = e ∙ ap (λ s. s ++ x) (spelled_last k n low) in
      inl (record { low = low; first = cc; rest = cc })
  | inr high ↦
      let f : b ∷ t ≡ (n % 128 + 128) ∷ (spelled_within k (n / 128) ++ x) = e ∙ ap (λ s. s ++ x) (spelled_more k n high) in
      inr (record { high = high; first = cc; rest = cc })
]

-- ---- no spelling begins another

-- one byte of the first text, and the rest of both where that goes on
same_by : (k m n : ℕ) (x y : List ℕ) → (128 ≤ m → 128 ≤ n → spelled_within k (m / 128) ++ x ≡ spelled_within k (n / 128) ++ y → (m / 128 ≡ n / 128) × (x ≡ y))
    → spelled_within (suc k) m ++ x ≡ spelled_within (suc k) n ++ y → (m ≡ n) × (x ≡ y)
same_by k m n x y above e = elim (cases_lt m 128) [
  | inl low ↦ elim (by_first k n m x y (sym (ap (λ s. s ++ x) (spelled_last k m low)) ∙ e)) [
    | inl last ↦ (last.first, last.rest)
    | inr on ↦ absurd (omega arith)
  ]
  | inr high ↦ elim (by_first k n (m % 128 + 128) (spelled_within k (m / 128) ++ x) y (sym (ap (λ s. s ++ x) (spelled_more k m high)) ∙ e)) [
    | inl last ↦ absurd (omega arith)
    | inr on ↦ let h = above high on.high on.rest in (omega (arith, h.0), h.1)
  ]
]

same_spelled : (k m n : ℕ) (x y : List ℕ) → m < room (suc k) → n < room (suc k) → spelled_within (suc k) m ++ x ≡ spelled_within (suc k) n ++ y → (m ≡ n) × (x ≡ y)
unfolding room
same_spelled zero m n x y m_fits n_fits = same_by zero m n x y (λ high _ _. absurd (omega arith))
same_spelled (suc k) m n x y m_fits n_fits = same_by (suc k) m n x y (λ _ _ e. same_spelled k (m / 128) (n / 128) x y (omega arith) (omega arith) e)

pub same_varint : (m n : ℕ) (x y : List ℕ) → m < 2 ^ 64 → n < 2 ^ 64 → varint m ++ x ≡ varint n ++ y → (m ≡ n) × (x ≡ y)
unfolding varint room
same_varint m n x y m_fits n_fits = same_spelled 9 m n x y m_fits n_fits

-- ---- writing, from the first byte on

pub room_left : (k n : ℕ) → 128 ≤ n → n < room (suc k) → (j : ℕ) × (k ≡ suc j) × (n / 128 < room (suc j))
unfolding room
room_left zero n high fits = absurd (omega arith)
room_left (suc j) n high fits = (j, refl, omega arith)

pub put_more : (text whole : List ℕ) (last rest : ℕ) → last < length text → last ≤ 9 → 128 ≤ rest → rest < room (suc (9 - last)) → take last text ++ spelled_within (suc (9 - last)) rest ≡ whole
    → (last + 1 ≤ 9) × (rest / 128 < room (suc (9 - (last + 1)))) × (take (last + 1) (set text last (rest % 128 + 128)) ++ spelled_within (suc (9 - (last + 1))) (rest / 128) ≡ whole)
put_more text whole last rest within low high fits so_far =
    let left = room_left (9 - last) rest high fits in
    let j = left.0 in
    let next : 9 - (last + 1) ≡ j = omega (arith, left.1) in
    let b = rest % 128 + 128 in
    let above : spelled_within (suc (9 - last)) rest ≡ b ∷ spelled_within (suc j) (rest / 128) = spelled_more (9 - last) rest high ∙ ap (λ k. b ∷ spelled_within k (rest / 128)) left.1 in
    let written : take (last + 1) (set text last b) ++ spelled_within (suc j) (rest / 128) ≡ take last text ++ b ∷ spelled_within (suc j) (rest / 128) =
    ap (λ t. t ++ spelled_within (suc j) (rest / 128)) (take_more_set text last b within) ∙ append_assoc (take last text) (b ∷ []) (spelled_within (suc j) (rest / 128)) in
    (omega (arith, left.1), rw next left.2, rw next (written ∙ sym (ap (λ t. take last text ++ t) above) ∙ so_far))

pub put_last : (text whole : List ℕ) (last rest : ℕ) → last < length text → rest < 128 → take last text ++ spelled_within (suc (9 - last)) rest ≡ whole → take (last + 1) (set text last rest) ≡ whole
put_last text whole last rest within low so_far = take_more_set text last rest within ∙ sym (ap (λ t. take last text ++ t) (spelled_last (9 - last) rest low)) ∙ so_far

-- the spelling of one byte
pub one_byte : (n : ℕ) → n < 128 → varint n ≡ n ∷ []
unfolding varint
one_byte n low = spelled_last 9 n low

-- a spelling has a byte at least
pub varint_some : (n : ℕ) → 0 < length (varint n)
unfolding varint
varint_some n = elim (cases_lt n 128) [
  | inl low ↦ omega (arith, ap length (spelled_last 9 n low))
  | inr high ↦ omega (arith, ap length (spelled_more 9 n high))
]
