-- How large a usage is.
use Rattle.std.proofs.Common.{◌≡◌, ℕ, ◌+◌, ◌-◌, ◌*◌, ◌≤◌, ◌^◌, true, false, cond, List, [], ◌∷◌, Some, refl, ap, arith}
use Rattle.std.specs.Prelude.{sum_by}
use Rattle.std.specs.FinMap.{get, entries}
use Rattle.std.proofs.lemmas.List.Sums.{sum_by-cons}
use Rattle.nn_base.specs.Paths.{Names, path_cmp, is_under}
use Rattle.nn_base.specs.Limits.{most_nodes}
use Rattle.nn_tree.specs.declared.node.Node.{Node}
use Rattle.nn_tree.specs.Nodes.{space_of}
use Rattle.nn_tree.specs.Totals.{total}
use Rattle.nn_tree.specs.Namespace.{Nodes, node_count, root_node}
use Rattle.nn_tree.specs.Limits.{IsWithinLimits}
use Rattle.nn_tree.specs.Links.{Links, nodes_of, IsTree}
use Rattle.nn_tree.proofs.LinksLemmas.{paths_total, paths_exact}
use Rattle.nn_tree.proofs.LimitsLemmas.{kept_le}
use Rattle.nn_tree.proofs.TotalsLemmas.{total-retain_keys, total-insert_old}
use Rattle.nn_tree.proofs.BlocksLemmas.{space_is_small}
use Rattle.nn_arena.proofs.UsageLemmas.{share, total_add, total_cut, total_none}

-- the part below a path is no more than the whole
part_le : (w : Node → ℕ) (m : Nodes) (p : Names) → total (share w p) m ≤ total (λ q x. w x) m
part_le w m p =
    let e = total-retain_keys path_cmp paths_total paths_exact (λ q x. w x) m (is_under p) in
    let l = kept_le (λ q x. w x) m (is_under p) in
    omega arith

times_count : {A : Type 0} (xs : List A) → sum_by (λ a. 2 ^ 64) xs ≡ sum_by (λ a. 1) xs * 2 ^ 64
times_count [] = refl
times_count (x ∷ xs) = omega (arith, times_count xs, sum_by-cons (λ a. 2 ^ 64) x xs, sum_by-cons (λ a. 1) x xs)

module _ (g : Links) (t : IsTree g) (limits : IsWithinLimits (nodes_of g)) where
  pub names_bound : (p : Names) → total (share (λ x. 1) p) (nodes_of g) ≤ most_nodes
  names_bound p =
      let few = limits.nodes in
      let part = part_le (λ x. 1) (nodes_of g) p in
      omega arith

  all_space : total (λ q x. space_of x.kind) (nodes_of g) ≤ node_count (nodes_of g) * 2 ^ 64
  all_space =
      let s = total_add g t (λ q x. space_of x.kind) (λ q x. 2 ^ 64 - space_of x.kind) (λ q x. 2 ^ 64) (λ q x. 0) (λ q x is. one q x is) in
      let c = times_count (entries (nodes_of g)) in
      let z = total_none (nodes_of g) in
      omega (arith, s, c, z)
    where
      one : (q : Names) (x : Node) → get (nodes_of g) q ≡ Some x → space_of x.kind + (2 ^ 64 - space_of x.kind) ≡ 2 ^ 64 + 0
      one q x is =
          let n = limits.each q x is in
          let s = space_is_small x.kind n.kind in
          omega arith

  pub space_bound : (p : Names) → total (share (λ x. space_of x.kind) p) (nodes_of g) ≤ most_nodes * 2 ^ 64
  space_bound p =
      let few = limits.nodes in
      let part = part_le (λ x. space_of x.kind) (nodes_of g) p in
      let all = all_space in
      omega arith

-- what is above has at least as much
pub share_above : (w : Node → ℕ) (m : Nodes) (p q : Names) → is_under p q ≡ false → is_under q p ≡ true → total (share w p) m ≤ total (share w q) m
share_above w m p q out above =
    let c = total_cut w m p q out in
    let b : cond (is_under q p) (total (share w p) m) 0 ≡ total (share w p) m = ap (λ b. cond b (total (share w p) m) 0) above in
    omega (arith, c, b)

-- a node at or below q has no more space than all of them
pub one_of_all : (m : Nodes) (p q : Names) (x : Node) → get m p ≡ Some x → is_under q p ≡ true → space_of x.kind ≤ total (share (λ x. space_of x.kind) q) m
one_of_all m p q x is below =
    let w : Node → ℕ = λ x. space_of x.kind in
    let e = total-insert_old path_cmp paths_total paths_exact (share w q) m p root_node x is in
    let a : share w q p x ≡ space_of x.kind = ap (λ b. cond b (space_of x.kind) 0) below in
    let z : share w q p root_node ≡ 0 = ap (λ b. cond b 0 0) below in
    omega (arith, e, a, z)
