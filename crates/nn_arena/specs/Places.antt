-- The places of the arena as the links of a tree: a place is free, or it has a node with its name and the place of its parent.
use Rattle.std.specs.Prelude.{◌≡◌, ◌≢◌, ℕ, Bool, List, [], length, slice_get, Option, Some, None, option_and_then, option_map, unwrap_or, is_some}
use Rattle.nn_base.specs.Paths.{Bytes}
use Rattle.nn_tree.specs.Links.{Link, Links}
use Rattle.nn_arena.specs.declared.place.Entry.{Entry}
use Rattle.nn_arena.specs.declared.place.Place.{Place}
use Rattle.nn_arena.specs.declared.place.Place.TheVariants.{Free, Used}

-- the root has no name
abbrev pub name_of : Entry → Bytes
name_of e = unwrap_or e.name []

abbrev pub entry_of : Place → Option Entry
entry_of (Free next) = None
entry_of (Used e) = Some e

-- what stands at a place that is in use
abbrev pub entry_at : List Place → ℕ → Option Entry
entry_at ps i = option_and_then entry_of (slice_get ps i)

abbrev pub in_use : List Place → ℕ → Bool
in_use ps i = is_some (entry_at ps i)

abbrev pub link_of : Entry → Link
link_of e = record { parent = e.parent; name = name_of e; node = e.node }

abbrev pub links_of : List Place → Links
links_of ps = record { at = λ i. option_map link_of (entry_at ps i); size = length ps }

-- ---- what a step leaves alone

-- a place without what links it to its neighbours
abbrev pub unlinked : Place → Place
unlinked (Free next) = Free next
unlinked (Used e) = Used (record e { first = None; next = None })

-- ps and qs differ in links to neighbours alone
pub record AreAlike (ps qs : List Place) : Type 0 where
  pub size : length qs ≡ length ps
  pub each : (j : ℕ) → option_map unlinked (slice_get qs j) ≡ option_map unlinked (slice_get ps j)

-- and at the place i
pub record AreAlikeBut (ps qs : List Place) (i : ℕ) : Type 0 where
  pub size : length qs ≡ length ps
  pub each : (j : ℕ) → j ≢ i → option_map unlinked (slice_get qs j) ≡ option_map unlinked (slice_get ps j)

-- qs is ps with another entry, or none, at the place i
pub record IsWith (ps qs : List Place) (i : ℕ) (place : Place) : Type 0 where
  pub size : length qs ≡ length ps
  pub here : slice_get qs i ≡ Some place
  pub others : (j : ℕ) → j ≢ i → slice_get qs j ≡ slice_get ps j
