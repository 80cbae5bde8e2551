-- Names and paths: a name is its bytes, and a path its names from the root.
use Rattle.std.specs.Prelude.{◌≡◌, ◌≤◌, ℕ, Bool, true, false, not, ◌&&◌, ◌||◌, nat_lt, nat_eq, ◌==◌, List, [], ◌∷◌, ◌++◌, length, All}
use Rattle.std.specs.List.{list_any}
use Rattle.std.specs.declared.cmp.Ordering.{Ordering}
use Rattle.std.specs.Ordering.{nat_cmp}
use Rattle.std.specs.Cmp.Lexicographic.{slice_cmp, pointwise}
use Rattle.nn_base.specs.Limits.{most_name, most_levels, most_path}

abbrev pub Bytes : Type 0
Bytes = List ℕ

abbrev pub Names : Type 0
Names = List Bytes

-- ---- names

-- `.` and `..`, which stand for a directory itself and for its parent
abbrev pub is_dots : Bytes → Bool
is_dots [] = false
is_dots (a ∷ []) = a == 46
is_dots (a ∷ b ∷ []) = (a == 46) && (b == 46)
is_dots (a ∷ b ∷ c ∷ rest) = false

-- a zero byte or a `:`
abbrev pub has_barred : Bytes → Bool
has_barred part = list_any (λ b. (b == 0) || (b == 58)) part

-- what a part of a path may not be: empty, `.` or `..`, or with a zero byte or a `:`
abbrev pub is_bad_name : Bytes → Bool
is_bad_name part = (length part == 0) || is_dots part || has_barred part

abbrev pub is_long_name : Bytes → Bool
is_long_name part = nat_lt most_name (length part)

abbrev pub has_slash : Bytes → Bool
has_slash part = list_any (λ b. b == 47) part

-- a part of a path that is neither bad nor too long
abbrev pub is_name : Bytes → Bool
is_name part = not (is_bad_name part || is_long_name part || has_slash part)

-- ---- paths

-- a `/` before each name
abbrev pub joined : Names → Bytes
joined [] = []
joined (name ∷ rest) = 47 ∷ name ++ joined rest

-- the text of a path: the root's is `/` alone
abbrev pub text_of : Names → Bytes
text_of [] = 47 ∷ []
text_of (name ∷ rest) = joined (name ∷ rest)

-- names that make a path: at most 1,000 levels, and 8,000 bytes of text
pub record IsPath (names : Names) : Type 0 where
  pub named : All (λ name. is_name name ≡ true) names
  pub levels : length names ≤ most_levels
  pub size : length (joined names) ≤ most_path

-- whether p is a prefix of q, q itself included
abbrev pub is_under : Names → Names → Bool
is_under [] q = true
is_under (x ∷ p) [] = false
is_under (x ∷ p) (y ∷ q) = pointwise nat_eq x y && is_under p q

-- ---- the order of paths: as lists of names, names by bytes

abbrev pub name_cmp : Bytes → Bytes → Ordering
name_cmp = slice_cmp nat_cmp

abbrev pub path_cmp : Names → Names → Ordering
path_cmp = slice_cmp name_cmp
