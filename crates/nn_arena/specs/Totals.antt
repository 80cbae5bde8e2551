-- The usage that each place keeps of what stands at and below it.
use Rattle.std.specs.Prelude.{◌≡◌, ◌+◌, ◌-◌, ℕ, List, length, slice_get, Some, option_map, if◌then◌else◌}
use Rattle.nn_base.specs.Paths.{Names, is_under}
use Rattle.nn_quota.specs.declared.quota.Usage.{Usage}
use Rattle.nn_tree.specs.declared.node.Node.{Node}
use Rattle.nn_tree.specs.Nodes.{space_of}
use Rattle.nn_tree.specs.Namespace.{usage_of}
use Rattle.nn_tree.specs.Links.{nodes_of, place_of}
use Rattle.nn_arena.specs.declared.place.Entry.{Entry}
use Rattle.nn_arena.specs.declared.place.Place.{Place}
use Rattle.nn_arena.specs.declared.place.Place.TheVariants.{Free, Used}
use Rattle.nn_arena.specs.Places.{entry_at, links_of}

-- each place in use keeps the usage of its path
abbrev pub AreTotals : List Place → Type 0
AreTotals ps = (i : ℕ) (e : Entry) → entry_at ps i ≡ Some e → e.usage ≡ usage_of (nodes_of (links_of ps)) (place_of (links_of ps) i)

-- what a node adds to each usage above it
abbrev pub own_usage : Node → Usage
own_usage node = record { names = 1; space = space_of node.kind }

-- ---- a climb to the root

abbrev pub plus : Usage → Usage → Usage
plus more old = record { names = old.names + more.names; space = old.space + more.space }

abbrev pub less : Usage → Usage → Usage
less gone old = record { names = old.names - gone.names; space = old.space - gone.space }

-- a node's own space was `was`, and is `now`
abbrev pub reweighed : ℕ → ℕ → Usage → Usage
reweighed was now old = record { names = old.names; space = (old.space + now) - was }

-- what a climb from the path q makes of the place j: its usage changes where its path is a prefix of q
abbrev pub climbed_place : List Place → Names → (Usage → Usage) → ℕ → Place → Place
climbed_place ps q f j (Free next) = Free next
climbed_place ps q f j (Used e) = if is_under (place_of (links_of ps) j) q then Used (record e { usage = f e.usage }) else Used e

pub record IsClimbed (ps qs : List Place) (q : Names) (f : Usage → Usage) : Type 0 where
  pub size : length qs ≡ length ps
  pub each : (j : ℕ) → slice_get qs j ≡ option_map (climbed_place ps q f j) (slice_get ps j)
