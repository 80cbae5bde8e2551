use Rattle.std.proofs.Common.{◌≡◌, ◌+◌, ◌*◌, ◌-◌, true, length, is_some}
use Rattle.nn_tree.specs.Namespace.{node_count}
use Rattle.nn_tree.specs.Links.{nodes_of, place_of}
use Rattle.nn_arena.specs.Places.{links_of}
use Rattle.nn_arena.proofs.ClearLemmas.{Clearing}
use Rattle.nn_arena.proofs.arena.Arena.clear_below.Given as goal

abbrev pub invariant-walk : goal.invariant-walk
invariant-walk l = record { clearing : Clearing l.fn.self.places.items l.self.places.items l.top l.at; room : is_some l.fn.self.free ≡ true → is_some l.self.free ≡ true }

abbrev pub decreases-walk : goal.decreases-walk
decreases-walk l = 2 * node_count (nodes_of (links_of l.self.places.items)) + (length l.self.places.items - length (place_of (links_of l.self.places.items) l.at))
