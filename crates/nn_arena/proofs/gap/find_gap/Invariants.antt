use Rattle.std.proofs.Common.{length}
use Rattle.nn_arena.specs.Places.{links_of}
use Rattle.nn_arena.specs.Children.{bound_of, IsWalked}
use Rattle.nn_arena.proofs.GapLemmas.{later_count}
use Rattle.nn_arena.proofs.gap.find_gap.Given as goal

abbrev pub invariant-walk : goal.invariant-walk
invariant-walk l = IsWalked l.places l.parent l.name l.before l.after

abbrev pub decreases-walk : goal.decreases-walk
decreases-walk l = later_count (links_of l.places) l.parent (bound_of (links_of l.places) l.before) (length l.places)
