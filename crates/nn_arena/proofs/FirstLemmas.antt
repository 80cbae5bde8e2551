-- The totals of the root alone.
use Rattle.std.proofs.Common.{◌≡◌, ℕ, true, false, cond, List, [], Some, None, refl, sym, ap, ◌∙◌, arith}
use Rattle.std.specs.Ordering.{eq_by_cmp}
use Rattle.std.specs.FinMap.{get, insert, empty, get-insert, get-empty}
use Rattle.nn_base.specs.Paths.{Names, path_cmp}
use Rattle.nn_tree.specs.declared.node.Node.{Node}
use Rattle.nn_tree.specs.Totals.{total}
use Rattle.nn_tree.specs.Nodes.{space_of}
use Rattle.nn_tree.specs.Namespace.{Nodes, root_node, usage_of}
use Rattle.nn_tree.specs.Links.{nodes_of, place_of, IsTree}
use Rattle.nn_tree.proofs.LinksLemmas.{paths_total, paths_exact}
use Rattle.nn_tree.proofs.SlotsLemmas.{ties, total-empty}
use Rattle.nn_tree.proofs.TotalsLemmas.{total-insert}
use Rattle.nn_arena.specs.declared.place.Entry.{Entry}
use Rattle.nn_arena.specs.declared.place.Place.{Place}
use Rattle.nn_arena.specs.Places.{entry_at, links_of}
use Rattle.nn_arena.specs.Totals.{AreTotals}
use Rattle.nn_arena.proofs.UsageLemmas.{share}
use Rattle.nn_arena.proofs.AfterLemmas.{there_at}

abbrev alone : Nodes
alone = insert empty [] root_node

root_only : (p : Names) (x : Node) → get alone p ≡ Some x → p ≡ []
root_only p x is = elim (eq_by_cmp path_cmp p []) as (λ b. eq_by_cmp path_cmp p [] ≡ b → cond b (Some root_node) (get {R = path_cmp} empty p) ≡ Some x → p ≡ []) [
  | true ↦ λ e _. ties paths_total paths_exact p [] e
  | false ↦ λ _ h. (let z : None ≡ Some x = sym (get-empty {X = Node} path_cmp p) ∙ h in cc)
] refl (sym (get-insert paths_total empty [] root_node p) ∙ is)

root_share : (w : Node → ℕ) → total (share w []) alone ≡ w root_node
root_share w =
    let e = total-insert path_cmp paths_total (share w []) empty [] root_node (get-empty {X = Node} path_cmp []) in
    let z = total-empty {X = Node} path_cmp (share w []) in
    omega (arith, e, z)

pub first_totals : (ps : List Place) → IsTree (links_of ps) → nodes_of (links_of ps) ≡ insert empty [] root_node → ((i : ℕ) (e : Entry) → entry_at ps i ≡ Some e → e.usage ≡ record { names = 1; space = 0 }) → AreTotals ps
first_totals ps t nodes usages j e is =
    let root = root_only (place_of (links_of ps) j) e.node (ap (λ m. get m (place_of (links_of ps) j)) (sym nodes) ∙ there_at ps j e t is) in
    usages j e is ∙ (λ k. record { names = sym (root_share (λ _. 1)) k; space = sym (root_share (λ n. space_of n.kind)) k }) ∙ sym (λ k. usage_of (nodes k) (root k))
