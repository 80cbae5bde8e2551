-- A map of one node, and its changes.
use Rattle.std.proofs.Common.{◌≡◌, ◌≤◌, [], length, Some, None, sym, ap, subst, ◌∙◌, arith}
use Rattle.std.specs.FinMap.{insert, empty, get-empty}
use Rattle.nn_base.specs.Limits.{most_blocks}
use Rattle.nn_base.specs.Paths.{Names, path_cmp}
use Rattle.nn_tree.specs.declared.node.Node.{Node}
use Rattle.nn_tree.specs.declared.node.Change.{Change}
use Rattle.nn_tree.specs.Nodes.{blocks_of}
use Rattle.nn_tree.specs.Namespace.{Nodes}
use Rattle.nn_tree.specs.Limits.{IsNode, IsWithinLimits}
use Rattle.nn_tree.specs.Changes.{change_at, changed}
use Rattle.nn_tree.proofs.LinksLemmas.{paths_total, paths_exact}
use Rattle.nn_tree.proofs.SlotsLemmas.{insert_over, total-empty}
use Rattle.nn_tree.proofs.LimitsLemmas.{limits_insert}
use Rattle.nn_image.proofs.NewNodeLemmas.{at_itself}

-- the root alone
abbrev pub alone : Node → Nodes
alone node = insert empty [] node

pub alone_changed : (node : Node) (f : Node → Node) → change_at [] f (alone node) ≡ alone (f node)
alone_changed node f =
    ap (λ o. elim o as (λ _. Nodes) [ None ↦ alone node | Some x ↦ insert (alone node) [] (f x) ]) (at_itself empty [] node)
    ∙ insert_over paths_total paths_exact empty [] node (f node)

pub alone_within : (node : Node) → IsNode node → length (blocks_of node.kind) ≤ most_blocks → IsWithinLimits (alone node)
alone_within node ok few = limits_insert empty [] node none_within (get-empty path_cmp []) ok
    (let e = total-empty {X = Node} path_cmp (λ _ _. 1) in omega arith)
    (let e = total-empty {X = Node} path_cmp (λ _ node. length (blocks_of node.kind)) in omega arith)
  where
    none_within : IsWithinLimits empty
    none_within = record {
      nodes = let e = total-empty {X = Node} path_cmp (λ _ _. 1) in omega arith;
      blocks = let e = total-empty {X = Node} path_cmp (λ _ node. length (blocks_of node.kind)) in omega arith;
      each = λ p node there. let none = get-empty {X = Node} path_cmp p in cc;
    }

pub changed_within : (m : Nodes) (p : Names) (node : Node) (change : Change) → m ≡ alone node → p ≡ [] → IsNode (changed change node) → IsWithinLimits (change_at p (changed change) m)
changed_within m p node change is at ok =
    let few = ok.kind.few in
    subst IsWithinLimits (sym ((λ i. change_at (at i) (changed change) (is i)) ∙ alone_changed node (changed change))) (alone_within (changed change node) ok (omega arith))
