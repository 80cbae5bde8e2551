-- What stands at and below a path, in the order of paths, and what comes next there.
use Rattle.std.specs.Prelude.{◌≡◌, ◌≢◌, ℕ, Bool, true, List, length, count_by, Option, Some, None, is_some, IfSome}
use Rattle.std.specs.List.{filter}
use Rattle.std.specs.Ordering.{is_lt}
use Rattle.std.specs.FinMap.{get, entries}
use Rattle.std.specs.declared.cmp.Ordering.TheVariants.{Less}
use Rattle.nn_base.specs.Paths.{Names, path_cmp, is_under}
use Rattle.nn_tree.specs.declared.node.Node.{Node}
use Rattle.nn_tree.specs.declared.spot.Spot.{Spot}
use Rattle.nn_tree.specs.Namespace.{Nodes}

-- top with all below it, in the order of paths
abbrev pub entries_below : Nodes → Names → List (Names × Node)
entries_below m top = filter (λ e. is_under top e.0) (entries m)

-- q is a path of the map, at or below top, that comes after p
pub record Follows (m : Nodes) (top p q : Names) : Type 0 where
  pub there : is_some (get m q) ≡ true
  pub under : is_under top q ≡ true
  pub after : path_cmp p q ≡ Less

-- the spot of the least path that follows p, or none where no path does
abbrev pub IsNextBelow : Option Spot → (Spot → Bool) → (Spot → Names) → Nodes → Names → Names → Type 0
IsNextBelow None has place m top p = (q : Names) → ¬ (Follows m top p q)
IsNextBelow (Some s) has place m top p = (has s ≡ true) × Follows m top p (place s) × ((q : Names) → Follows m top p q → path_cmp q (place s) ≢ Less)

-- ---- how far a walk is

-- a walk stands at a spot at or below top, or behind all of them
abbrev pub IsBelow : Option Spot → (Spot → Bool) → (Spot → Names) → Names → Type 0
IsBelow o has place top = IfSome o (λ s. (has s ≡ true) × (is_under top (place s) ≡ true))

-- how many entries come before p
abbrev pub count_before : Nodes → Names → Names → ℕ
count_before m top p = count_by (λ e. is_lt (path_cmp e.0 p)) (entries_below m top)

-- how many a walk has visited before it comes to a spot, and all of them behind the last
abbrev pub visited : Nodes → Names → (Spot → Names) → Option Spot → ℕ
visited m top place None = length (entries_below m top)
visited m top place (Some s) = count_before m top (place s)
