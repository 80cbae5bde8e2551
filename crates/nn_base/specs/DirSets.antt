-- Sets of name directories, as eight truth values.
use Rattle.std.specs.Prelude.{◌≡◌, ℕ, ◌+◌, Bool, true, false, List, [], ◌∷◌, length, slice_index_or, refl}
use Rattle.std.proofs.Common.{arith}

-- whether each of the directories 0 to 7 is in a set
pub record Members : Type 0 where
  pub m0 : Bool
  pub m1 : Bool
  pub m2 : Bool
  pub m3 : Bool
  pub m4 : Bool
  pub m5 : Bool
  pub m6 : Bool
  pub m7 : Bool

abbrev pub values : Members → List Bool
values set = set.m0 ∷ set.m1 ∷ set.m2 ∷ set.m3 ∷ set.m4 ∷ set.m5 ∷ set.m6 ∷ set.m7 ∷ []

abbrev pub from_values : List Bool → Members
from_values bs = record {
  m0 = slice_index_or bs 0 false;
  m1 = slice_index_or bs 1 false;
  m2 = slice_index_or bs 2 false;
  m3 = slice_index_or bs 3 false;
  m4 = slice_index_or bs 4 false;
  m5 = slice_index_or bs 5 false;
  m6 = slice_index_or bs 6 false;
  m7 = slice_index_or bs 7 false;
}

-- whether a directory is in a set; a number from 8 on is in none
abbrev pub has : Members → ℕ → Bool
has set j = slice_index_or (values set) j false

-- how many of these are true
abbrev pub count_true : List Bool → ℕ
count_true [] = 0
count_true (true ∷ bs) = 1 + count_true bs
count_true (false ∷ bs) = count_true bs

-- how many directories a set has
abbrev pub count_of : Members → ℕ
count_of set = count_true (values set)

-- a set keeps the eight values that it was made of
pub values-from_values : (bs : List Bool) → length bs ≡ 8 → values (from_values bs) ≡ bs
values-from_values [] h = cc
values-from_values (a ∷ []) h = cc
values-from_values (a ∷ b ∷ []) h = cc
values-from_values (a ∷ b ∷ c ∷ []) h = cc
values-from_values (a ∷ b ∷ c ∷ d ∷ []) h = cc
values-from_values (a ∷ b ∷ c ∷ d ∷ e ∷ []) h = cc
values-from_values (a ∷ b ∷ c ∷ d ∷ e ∷ f ∷ []) h = cc
values-from_values (a ∷ b ∷ c ∷ d ∷ e ∷ f ∷ g ∷ []) h = cc
values-from_values (a ∷ b ∷ c ∷ d ∷ e ∷ f ∷ g ∷ i ∷ []) h = refl
values-from_values (a ∷ b ∷ c ∷ d ∷ e ∷ f ∷ g ∷ i ∷ k ∷ bs) h = absurd (omega (arith, h))
