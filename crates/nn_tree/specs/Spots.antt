-- Spots: `has s` says whether a spot names a node of a tree, and `place s` the path of that node.
use Rattle.std.specs.Prelude.{◌≡◌, ◌≢◌, Bool, true, not, ◌&&◌, [], ◌∷◌, ◌++◌, Option, Some, None, is_some}
use Rattle.std.specs.FinMap.{get}
use Rattle.std.specs.declared.cmp.Ordering.TheVariants.{Less}
use Rattle.nn_base.specs.Paths.{Names, Bytes, name_cmp, is_under}
use Rattle.nn_tree.specs.declared.spot.Spot.{Spot}
use Rattle.nn_tree.specs.Namespace.{Namespace, Nodes, IsNamespace}
use Rattle.nn_tree.specs.Limits.{IsWithinLimits, IsCounters}

-- ---- what holds of every tree

pub record IsSound (ns : Namespace) (has : Spot → Bool) (place : Spot → Names) : Type 0 where
  pub formed : IsNamespace ns.nodes
  pub limits : IsWithinLimits ns.nodes
  pub counters : IsCounters ns.counters
  pub named : (s : Spot) → has s ≡ true → is_some (get ns.nodes (place s)) ≡ true
  pub apart : (s t : Spot) → has s ≡ true → has t ≡ true → place s ≡ place t → s ≡ t

-- ---- the neighbours of a node

-- the last name of a path; the root has none
abbrev pub last_name : Names → Bytes
last_name [] = []
last_name (name ∷ []) = name
last_name (name ∷ next ∷ rest) = last_name (next ∷ rest)

-- none above the root, else the spot of the path without its last name
abbrev pub IsParent : Option Spot → (Spot → Bool) → (Spot → Names) → Names → Type 0
IsParent None has place p = p ≡ []
IsParent (Some s) has place p = (has s ≡ true) × ((name : Bytes) × (p ≡ place s ++ name ∷ []))

-- s names the child of p whose name is the least above a bound
pub record NextChild (s : Spot) (has : Spot → Bool) (place : Spot → Names) (m : Nodes) (p : Names) (bound : Bytes) : Type 0 where
  pub there : has s ≡ true
  pub name : Bytes
  pub at : place s ≡ p ++ name ∷ []
  pub above : name_cmp bound name ≡ Less
  pub least : (other : Bytes) → name_cmp bound other ≡ Less → is_some (get m (p ++ other ∷ [])) ≡ true → name_cmp other name ≢ Less

-- that child, or none where p has no child above the bound; all names are above the empty one
abbrev pub IsNextChild : Option Spot → (Spot → Bool) → (Spot → Names) → Nodes → Names → Bytes → Type 0
IsNextChild None has place m p bound = (other : Bytes) → name_cmp bound other ≡ Less → get m (p ++ other ∷ []) ≡ None
IsNextChild (Some s) has place m p bound = NextChild s has place m p bound

-- ---- what a change keeps

-- each spot that named a node still names it, at the path that f makes of the old one
pub record Keeps (had has : Spot → Bool) (was is : Spot → Names) (f : Names → Names) : Type 0 where
  pub stays : (s : Spot) → had s ≡ true → has s ≡ true
  pub same : (s : Spot) → had s ≡ true → is s ≡ f (was s)

-- the spots at and below p name nothing any more, and each other one what it named
pub record Removes (p : Names) (had has : Spot → Bool) (was is : Spot → Names) : Type 0 where
  pub left : (s : Spot) → has s ≡ (had s && not (is_under p (was s)))
  pub same : (s : Spot) → has s ≡ true → is s ≡ was s

-- ---- what a tree keeps ready, so that a call needs no memory

-- room for one node more, and at which spots for one block more
pub record Spare : Type 0 where
  pub node : Bool
  pub block : Spot → Bool

-- the room for a block stays at each spot that names a node
abbrev pub KeepsBlockRoom : (Spot → Bool) → Spare → Spare → Type 0
KeepsBlockRoom has old new = (s : Spot) → has s ≡ true → old.block s ≡ true → new.block s ≡ true

pub record KeepsSpare (has : Spot → Bool) (old new : Spare) : Type 0 where
  pub node : old.node ≡ true → new.node ≡ true
  pub block : KeepsBlockRoom has old new
