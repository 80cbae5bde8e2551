use Rattle.std.proofs.Common.{◌≤◌, length}
use Rattle.std.specs.Prelude.{◌↔◌}
use Rattle.nn_message.specs.FrameViews.{ArePlaces}
use Rattle.nn_message.proofs.places.are_places.Given as goal

abbrev pub invariant-places : goal.invariant-places
invariant-places l = (length l.rest ≤ length l.fields) × (ArePlaces l.fields ↔ ArePlaces l.rest)

abbrev pub decreases-places : goal.decreases-places
decreases-places l = length l.rest
