use Rattle.std.proofs.Common.{length}
use Rattle.nn_tree.specs.Links.{place_of}
use Rattle.nn_arena.specs.Places.{links_of}
use Rattle.nn_arena.specs.Totals.{plus}
use Rattle.nn_arena.proofs.UpLemmas.{Climbs}
use Rattle.nn_arena.proofs.climb.add_up.Given as goal

abbrev pub invariant-climb : goal.invariant-climb
invariant-climb l = Climbs l.fn.places l.places l.fn.at l.at (plus l.more)

abbrev pub decreases-climb : goal.decreases-climb
decreases-climb l = length (place_of (links_of l.fn.places) l.at)
