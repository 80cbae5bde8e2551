use Rattle.std.proofs.Common.{◌≡◌, Bool, List}
use Rattle.nn_base.specs.Paths.{Names}
use Rattle.nn_tree.specs.declared.spot.Spot.{Spot}
use Rattle.nn_image.specs.Assembly.{Level, waiting}
use Rattle.nn_image.specs.Building.{AreOpen}
use Rattle.nn_image.proofs.open_dir.take_waiting.Given as goal

-- the levels that were taken away had no child to come
abbrev pub invariant-loop-dir : goal.invariant-loop-dir
invariant-loop-dir l = (has : Spot → Bool) (place : Spot → Names) (levels : List Level) → AreOpen has place l.initial.dirs.items levels →
    (now : List Level) × (waiting levels ≡ waiting now) × AreOpen has place l.dirs.items now

abbrev pub decreases-loop-dir : goal.decreases-loop-dir
decreases-loop-dir l = goal.left-loop-dir l
