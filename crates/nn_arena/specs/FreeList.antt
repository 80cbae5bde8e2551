-- The free places, as a list in the places themselves.
use Rattle.std.specs.Prelude.{◌≡◌, ◌≢◌, ℕ, List, [], ◌∷◌, slice_get, Option, Some, None}
use Rattle.std.specs.List.{AllByRecursion, list_any}
use Rattle.std.specs.Prelude.{nat_eq, true}
use Rattle.nn_arena.specs.declared.place.Place.{Place}
use Rattle.nn_arena.specs.declared.place.Place.TheVariants.{Free}

-- from a place on, each free place names the next, and the last one none; no place stands twice
abbrev pub AreFreeFrom : List Place → Option ℕ → List ℕ → Type 0
AreFreeFrom ps head [] = head ≡ None
AreFreeFrom ps head (i ∷ rest) = (head ≡ Some i) × AllByRecursion (λ j. j ≢ i) rest × ((next : Option ℕ) × ((slice_get ps i ≡ Some (Free next)) × AreFreeFrom ps next rest))

-- the list from its head on has all places that aren't in use
pub record IsFreeList (ps : List Place) (head : Option ℕ) : Type 0 where
  pub list : List ℕ
  pub linked : AreFreeFrom ps head list
  pub whole : (i : ℕ) (next : Option ℕ) → slice_get ps i ≡ Some (Free next) → list_any (nat_eq i) list ≡ true
