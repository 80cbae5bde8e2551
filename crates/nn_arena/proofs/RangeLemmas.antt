-- No climb leaves the range of a usage.
use Rattle.std.proofs.Common.{◌≡◌, ℕ, ◌*◌, ◌≤◌, ◌^◌, Bool, true, false, cond, List, Some, ap, ◌∙◌, arith}
use Rattle.std.specs.FinMap.{get, insert, get-insert}
use Rattle.nn_base.specs.Limits.{most_nodes}
use Rattle.nn_base.specs.Paths.{Names}
use Rattle.nn_quota.specs.declared.quota.Usage.{Usage}
use Rattle.nn_tree.specs.declared.node.Node.{Node}
use Rattle.nn_tree.specs.Namespace.{Nodes}
use Rattle.nn_tree.specs.Limits.{IsWithinLimits, IsKind}
use Rattle.nn_tree.specs.Links.{Links, nodes_of, place_of, IsTree}
use Rattle.nn_tree.proofs.LinksLemmas.{paths_total}
use Rattle.nn_tree.proofs.SlotsLemmas.{itself}
use Rattle.nn_arena.specs.declared.place.Entry.{Entry}
use Rattle.nn_arena.specs.declared.place.Place.{Place}
use Rattle.nn_arena.specs.Places.{entry_at, links_of}
use Rattle.nn_arena.specs.Totals.{AreTotals, less}
use Rattle.nn_arena.proofs.AfterLemmas.{usage_at, AreCarried, there_at}
use Rattle.nn_arena.proofs.BoundLemmas.{names_bound, space_bound}

-- at most so many names, and so much space
pub record IsSmall (u : Usage) : Type 0 where
  pub names : u.names ≤ most_nodes
  pub space : u.space ≤ most_nodes * 2 ^ 64

pub small_at : (g : Links) (j : ℕ) → IsTree g → IsWithinLimits (nodes_of g) → IsSmall (usage_at g j)
small_at g j t limits = record { names = names_bound g t limits (place_of g j); space = space_bound g t limits (place_of g j) }

small_is : (u v : Usage) → u ≡ v → IsSmall v → IsSmall u
small_is u v is s =
    let a = ap (λ (u : Usage). u.names) is in
    let b = ap (λ (u : Usage). u.space) is in
    let n = s.names in
    let m = s.space in
    record { names = omega (arith, a, n); space = omega (arith, b, m) }

small_less : (b : Bool) (gone u : Usage) → IsSmall u → IsSmall (cond b (less gone u) u)
small_less true gone u s = let n = s.names in let m = s.space in record { names = omega arith; space = omega arith }
small_less false gone u s = s

pub totals_small : (ps : List Place) (j : ℕ) (e : Entry) → IsTree (links_of ps) → IsWithinLimits (nodes_of (links_of ps)) → AreTotals ps → entry_at ps j ≡ Some e → IsSmall e.usage
totals_small ps j e t limits totals is = small_is e.usage (usage_at (links_of ps) j) (totals j e is) (small_at (links_of ps) j t limits)

pub carried_small : (ps : List Place) (q : Names) (gone : Usage) (j : ℕ) (e : Entry) → IsTree (links_of ps) → IsWithinLimits (nodes_of (links_of ps)) → AreCarried ps q (less gone) → entry_at ps j ≡ Some e → IsSmall e.usage
carried_small ps q gone j e t limits carried is =
    small_is e.usage _ (carried j e is) (small_less _ gone (usage_at (links_of ps) j) (small_at (links_of ps) j t limits))

-- what is put into a map is there
pub put_there : (m : Nodes) (p : Names) (node : Node) → get (insert m p node) p ≡ Some node
put_there m p node = get-insert paths_total m p node p ∙ ap (λ b. cond b (Some node) (get m p)) (itself paths_total p)

-- an entry's node is within its limits
pub kind_at : (ps : List Place) (j : ℕ) (e : Entry) → IsTree (links_of ps) → IsWithinLimits (nodes_of (links_of ps)) → entry_at ps j ≡ Some e → IsKind e.node.kind
kind_at ps j e t limits is = let n = limits.each (place_of (links_of ps) j) e.node (there_at ps j e t is) in n.kind
