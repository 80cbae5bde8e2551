-- The walk along a path, from the root.
use Rattle.std.specs.Prelude.{◌≡◌, ◌≢◌, Bool, true, if◌then◌else◌, [], ◌∷◌, ◌++◌, Option, Some, None, is_some}
use Rattle.std.specs.FinMap.{get}
use Rattle.nn_base.specs.Paths.{Names}
use Rattle.nn_tree.specs.declared.spot.Spot.{Spot}
use Rattle.nn_tree.specs.declared.spot.Walk.{Walk}
use Rattle.nn_tree.specs.declared.spot.Walk.TheVariants.{Found, Missing, ThroughFile}
use Rattle.nn_tree.specs.Nodes.{is_dir}
use Rattle.nn_tree.specs.Namespace.{Nodes}

-- what may stand in the way of a path
pub data Obstacle : Type 0 where
  Absent : Obstacle
  AFile : Obstacle

-- the first obstacle among the proper prefixes of front ++ rest, from front on
abbrev pub obstacle_from : Nodes → Names → Names → Option Obstacle
obstacle_from m front [] = None
obstacle_from m front (name ∷ rest) = elim (get m front) [
  | None ↦ Some Absent
  | Some node ↦ if is_dir node.kind then obstacle_from m (front ++ name ∷ []) rest else Some AFile
]

-- the first obstacle on the way from the root to p
abbrev pub obstacle : Nodes → Names → Option Obstacle
obstacle m p = obstacle_from m [] p

-- what a walk to p finds: the node there, with nothing in the way; that there is none, and no file in the way; or a file as the first thing in the way
abbrev pub IsWalk : Walk → (Spot → Bool) → (Spot → Names) → Nodes → Names → Type 0
IsWalk (Found s) has place m p = (has s ≡ true) × (place s ≡ p) × (is_some (get m p) ≡ true) × (obstacle m p ≡ None)
IsWalk Missing has place m p = (get m p ≡ None) × (obstacle m p ≢ Some AFile)
IsWalk ThroughFile has place m p = obstacle m p ≡ Some AFile
