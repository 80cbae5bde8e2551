use Rattle.std.proofs.Common.{◌≤◌}
use Rattle.nn_load.specs.Newest.{HasNoImages}
use Rattle.nn_load.proofs.newest.last_image.Given as goal

abbrev pub invariant-loop-k : goal.invariant-loop-k
invariant-loop-k l = record { below : l.k ≤ l.end; none : HasNoImages l.place.names.items l.k l.end }

abbrev pub decreases-loop-k : goal.decreases-loop-k
decreases-loop-k l = l.k
