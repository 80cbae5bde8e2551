-- What the steps of a change make of the places.
use Rattle.std.specs.Prelude.{◌≡◌, ◌≢◌, ℕ, true, false, List, [], length, slice_get, Option, Some, None, option_map}
use Rattle.nn_base.specs.Paths.{Names, is_under}
use Rattle.nn_tree.specs.Links.{path_at, place_of}
use Rattle.nn_tree.specs.Plain.{IsLeast}
use Rattle.nn_arena.specs.declared.place.Entry.{Entry}
use Rattle.nn_arena.specs.declared.place.Place.{Place}
use Rattle.nn_arena.specs.Places.{entry_at, links_of, unlinked, AreAlikeBut}
use Rattle.nn_arena.specs.Children.{AreLinked}

-- the entry of i is taken out: the others are linked without it, and what stands below it stays linked to the place
pub record IsTaken (ps qs : List Place) (i : ℕ) (e : Entry) : Type 0 where
  pub alike : AreAlikeBut ps qs i
  pub free : entry_at qs i ≡ None
  pub linked : AreLinked qs
  pub first : IsLeast (links_of qs) i [] (length qs) e.first

-- an entry is put at i, a free place: the others are linked with it
pub record IsPut (ps qs : List Place) (i : ℕ) (old : Entry) : Type 0 where
  pub alike : AreAlikeBut ps qs i
  pub next : Option ℕ
  pub here : entry_at qs i ≡ Some (record old { next = next })
  pub linked : AreLinked qs

-- what is in use has the node and the usage that it had
abbrev pub KeepNodes : List Place → List Place → Type 0
KeepNodes ps qs = (j : ℕ) (e : Entry) → entry_at qs j ≡ Some e → (d : Entry) × (entry_at ps j ≡ Some d) × (e.usage ≡ d.usage) × (e.node ≡ d.node)

-- a place is as it was, but for the links to its neighbours
abbrev pub IsAlikeAt : List Place → List Place → ℕ → Type 0
IsAlikeAt ps qs j = option_map unlinked (slice_get qs j) ≡ option_map unlinked (slice_get ps j)

-- all that stands below a place is freed, and nothing else; what is in use stands as it stood
pub record IsClearedBelow (ps qs : List Place) (top : ℕ) : Type 0 where
  pub size : length qs ≡ length ps
  pub left : (j : ℕ) (e : Entry) → entry_at qs j ≡ Some e → IsAlikeAt ps qs j
  pub kept : IsAlikeAt ps qs top
  pub outside : (j : ℕ) (p : Names) → path_at (links_of ps) j ≡ Some p → is_under (place_of (links_of ps) top) p ≡ false → IsAlikeAt ps qs j
  pub below : (j : ℕ) (p : Names) → path_at (links_of ps) j ≡ Some p → is_under (place_of (links_of ps) top) p ≡ true → j ≢ top → entry_at qs j ≡ None
