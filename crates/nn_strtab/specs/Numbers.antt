-- Names numbered from 1 in the order of their first use: a list in which each stands once.
use Rattle.std.specs.Prelude.{◌≡◌, ℕ, zero, suc, ◌+◌, List, [], ◌∷◌, ◌++◌, fold, slice_get, Option, Some, None, if◌then◌else◌}
use Rattle.std.specs.List.{list_any, position_or_len}
use Rattle.std.specs.Str.{bytes_eq}
use Rattle.nn_base.specs.Paths.{Bytes}

-- a name's number: its place counted from 1, and the next free number where it has none
abbrev pub number_in : List Bytes → Bytes → ℕ
number_in names name = 1 + position_or_len (bytes_eq name) names

-- the name that has a number; none has 0
abbrev pub name_at : List Bytes → ℕ → Option Bytes
name_at names zero = None
name_at names (suc place) = slice_get names place

-- the names after a use of one: it stays where it is, or it is new and goes last
abbrev pub with_use : List Bytes → Bytes → List Bytes
with_use names name = if list_any (bytes_eq name) names then names else names ++ name ∷ []

-- the names in the order of their first use
abbrev pub first_uses : List Bytes → List Bytes
first_uses uses = fold with_use [] uses

-- no name has two numbers
abbrev pub HaveOneNumber : List Bytes → Type 0
HaveOneNumber names = (i j : ℕ) (name : Bytes) → name_at names i ≡ Some name → name_at names j ≡ Some name → i ≡ j
