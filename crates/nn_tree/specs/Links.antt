-- A tree kept as numbered places, each free or with a link to the place of its parent. The root stands at 0.
use Rattle.std.specs.Prelude.{◌≡◌, ◌<◌, ℕ, zero, suc, Bool, true, List, [], ◌∷◌, ◌++◌, map, Option, Some, None, option_and_then, option_map, unwrap_or, is_some}
use Rattle.std.specs.List.{range_with_len}
use Rattle.nn_base.specs.Paths.{Names, Bytes, is_name}
use Rattle.nn_tree.specs.declared.node.Node.{Node}
use Rattle.nn_tree.specs.declared.node.Counters.{Counters}
use Rattle.nn_tree.specs.Nodes.{is_dir}
use Rattle.nn_tree.specs.Namespace.{Namespace, Nodes, IsRoot}
use Rattle.nn_tree.specs.Slots.{of_slots}

-- what a place that is in use holds
pub record Link : Type 0 where
  pub parent : ℕ
  pub name : Bytes
  pub node : Node

-- the places below a size
pub record Links : Type 0 where
  pub at : ℕ → Option Link
  pub size : ℕ

-- the path of a place, found by climbing at most n times
abbrev pub up : Links → ℕ → ℕ → Option Names
up g zero n = option_map (λ l. []) (g.at zero)
up g (suc i) zero = None
up g (suc i) (suc n) = option_and_then (λ l. option_map (λ p. p ++ l.name ∷ []) (up g l.parent n)) (g.at (suc i))

unfoldable pub path_at : Links → ℕ → Option Names
path_at g i = up g i g.size

unfoldable pub slot : Links → ℕ → Option (Names × Node)
slot g i = option_and_then (λ l. option_map (λ p. (p, l.node)) (path_at g i)) (g.at i)

unfoldable pub slots : Links → List (Option (Names × Node))
slots g = map (slot g) (range_with_len 0 g.size)

-- what the places mean
abbrev pub nodes_of : Links → Nodes
nodes_of g = of_slots (slots g)

abbrev pub has_place : Links → ℕ → Bool
has_place g i = is_some (path_at g i)

abbrev pub place_of : Links → ℕ → Names
place_of g i = unwrap_or (path_at g i) []

abbrev pub meaning_of : Links → Counters → Namespace
meaning_of g counters = record { nodes = nodes_of g; counters = counters }

-- each place in use has a path, no two have the same, and the parent of each is a directory
pub record IsTree (g : Links) : Type 0 where
  pub within : (i : ℕ) (l : Link) → g.at i ≡ Some l → i < g.size
  pub root : path_at g 0 ≡ Some []
  pub top : (l : Link) → g.at 0 ≡ Some l → IsRoot l.node
  pub unnamed : (l : Link) → g.at 0 ≡ Some l → l.name ≡ []
  pub reaches : (i : ℕ) (l : Link) → g.at i ≡ Some l → is_some (path_at g i) ≡ true
  pub differ : (i j : ℕ) (p : Names) → path_at g i ≡ Some p → path_at g j ≡ Some p → i ≡ j
  pub dirs : (i : ℕ) (l d : Link) → g.at (suc i) ≡ Some l → g.at l.parent ≡ Some d → is_dir d.node.kind ≡ true
  pub names : (i : ℕ) (l : Link) → g.at (suc i) ≡ Some l → is_name l.name ≡ true
