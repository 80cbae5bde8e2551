-- How a number is spelled: the base-128 varint of Protocol Buffers, in its one form without needless bytes.
use Rattle.std.specs.Prelude.{◌≡◌, ◌≢◌, ℕ, zero, suc, ◌+◌, ◌*◌, ◌/◌, ◌%◌, ◌^◌, ◌<◌, ◌≤◌, List, [], ◌∷◌, ◌++◌, length, nat_lt, if◌then◌else◌}

-- seven bits a byte, the lowest first
abbrev pub worth : List ℕ → ℕ
worth [] = 0
worth (b ∷ bs) = b % 128 + 128 * worth bs

-- Each byte but the last says by its highest bit that another follows.
abbrev pub IsLinked : List ℕ → Type 0
IsLinked [] = ⊥
IsLinked (b ∷ []) = b < 128
IsLinked (b ∷ c ∷ bs) = (128 ≤ b) × (b < 256) × IsLinked (c ∷ bs)

-- the grammar
pub record IsVarint (bytes : List ℕ) (n : ℕ) : Type 0 where
  pub linked : IsLinked bytes
  pub no_needless_end : (first : ℕ) (middle : List ℕ) → bytes ≢ first ∷ (middle ++ 0 ∷ [])
  pub worth_is : worth bytes ≡ n
  pub small : n < 2 ^ 64

-- n by at most so many bytes: seven bits in each, and 128 more where others follow
unfoldable pub spelled_within : ℕ → ℕ → List ℕ
spelled_within zero n = []
spelled_within (suc most) n = if nat_lt n 128 then n ∷ [] else (n % 128 + 128) ∷ spelled_within most (n / 128)

-- The one spelling of a number below 2 ^ 64: ten bytes have room for any.
unfoldable pub varint : ℕ → List ℕ
varint n = spelled_within 10 n

-- the bytes are the spelling of n, and then rest
pub record Begins (bytes : List ℕ) (n : ℕ) (rest : List ℕ) : Type 0 where
  pub small : n < 2 ^ 64
  pub text : bytes ≡ varint n ++ rest

-- The bytes end early: they are a part of the spelling of n, and more would follow.
pub record IsCut (bytes : List ℕ) (n : ℕ) (more : List ℕ) : Type 0 where
  pub small : n < 2 ^ 64
  pub text : varint n ≡ bytes ++ more
  pub lacks : 0 < length more
