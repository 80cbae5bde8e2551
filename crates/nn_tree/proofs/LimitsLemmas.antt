-- The limits of a namespace under its changes.
use Rattle.std.proofs.Common.{◌≡◌, ℕ, ◌+◌, ◌<◌, ◌≤◌, Bool, true, false, not, cond, List, [], ◌∷◌, map, length, Option, Some, None, refl, sym, ap, subst, ◌∙◌, arith, length-append}
use Rattle.std.specs.FinMap.{get, insert, empty}
use Rattle.nn_base.specs.Paths.{Names, path_cmp, is_under}
use Rattle.nn_base.specs.Limits.{IsLong, most_nodes, most_blocks, most_blocks_of_file}
use Rattle.nn_base.proofs.PlainLemmas.{some_is}
use Rattle.nn_tree.specs.declared.node.Node.{Node}
use Rattle.nn_tree.specs.Namespace.{Nodes}
use Rattle.nn_tree.specs.Slots.{of_slots, slot_at}
use Rattle.nn_tree.specs.Links.{Links, slots, nodes_of, IsTree}
use Rattle.nn_tree.proofs.LinksLemmas.{paths_total, paths_exact, differ_slots}
use Rattle.std.specs.Prelude.{sum_by}
use Rattle.std.specs.Ordering.{eq_by_cmp}
use Rattle.std.specs.FinMap.{entries, retain_keys, get-retain_keys, get-insert, get-empty}
use Rattle.std.proofs.lemmas.List.Elements.{All-push}
use Rattle.std.proofs.lemmas.List.Sums.{sum_by-cons}
use Rattle.nn_tree.specs.Totals.{total}
use Rattle.nn_tree.specs.Slots.{rekey_slot, Differ}
use Rattle.nn_tree.specs.Nodes.{blocks_of}
use Rattle.nn_tree.specs.Namespace.{node_count, block_count, root_node}
use Rattle.nn_tree.specs.Limits.{IsBlock, IsKind, IsNode, IsWithinLimits}
use Rattle.nn_tree.specs.declared.node.Block.{Block}
use Rattle.nn_tree.specs.declared.node.Kind.{Kind}
use Rattle.nn_tree.specs.declared.node.Kind.TheVariants.{File, Dir}
use Rattle.nn_tree.specs.declared.node.Change.TheVariants.{Time}
use Rattle.nn_tree.specs.Changes.{cut, change_at, changed, add_block, with_block}
use Rattle.nn_tree.proofs.TotalsLemmas.{total-insert, total-insert_old, total-retain_keys}
use Rattle.nn_tree.proofs.SlotsLemmas.{hit, found, total-empty}
use Rattle.nn_tree.proofs.RekeyLemmas.{slot_map, rekeyed_from}
use Rattle.nn_tree.proofs.KeptLemmas.{total-rekeyed}

-- a sum of less is less
sum_by-le : {A : Type 0} (f k : A → ℕ) → ((a : A) → f a ≤ k a) → (xs : List A) → sum_by f xs ≤ sum_by k xs
sum_by-le f k le [] = omega arith
sum_by-le f k le (x ∷ xs) = omega (arith, le x, sum_by-le f k le xs, sum_by-cons f x xs, sum_by-cons k x xs)

cond_le : (b : Bool) (n : ℕ) → cond b n 0 ≤ n
cond_le true n = omega arith
cond_le false n = omega arith

pub kept_le : (f : Names → Node → ℕ) (m : Nodes) (p : Names → Bool) → total f (retain_keys m p) ≤ total f m
kept_le f m p =
    let e = total-retain_keys path_cmp paths_total paths_exact f m p in
    let l = sum_by-le (λ (e : Names × Node). cond (p e.0) (f e.0 e.1) 0) (λ e. f e.0 e.1) (λ e. cond_le (p e.0) (f e.0 e.1)) (entries m) in
    omega arith

pub limits_cut : (m : Nodes) (p : Names) → IsWithinLimits m → IsWithinLimits (cut p m)
limits_cut m p h = record {
  nodes = let n = h.nodes in let l = kept_le (λ _ _. 1) m (λ q. not (is_under p q)) in omega arith;
  blocks = let n = h.blocks in let l = kept_le (λ _ node. length (blocks_of node.kind)) m (λ q. not (is_under p q)) in omega arith;
  each = λ q node is. h.each q node (was q node (not (is_under p q)) refl (sym (get-retain_keys m (λ q. not (is_under p q)) q (λ x tied. ap (λ q. not (is_under p q)) (sym (paths_exact q x tied)))) ∙ is));
}
  where
    was : (q : Names) (node : Node) (b : Bool) → not (is_under p q) ≡ b → cond (not (is_under p q)) (get m q) None ≡ Some node → get m q ≡ Some node
    was q node true e is = sym (ap (λ b. cond b (get m q) None) e) ∙ is
    was q node false e is = let z : None ≡ Some node = sym (ap (λ b. cond b (get m q) None) e) ∙ is in cc

-- the same nodes under other keys
pub limits_rekeyed : (g h : Links) (f : Names → Names) → IsTree g → IsTree h → slots h ≡ map (rekey_slot f) (slots g) → IsWithinLimits (nodes_of g) → IsWithinLimits (nodes_of h)
limits_rekeyed g h f t u is l =
    let d : Differ (map (rekey_slot f) (slots g)) = subst (λ (s : List (Option (Names × Node))). Differ s) is (differ_slots h u) in
    subst (λ (s : List (Option (Names × Node))). IsWithinLimits (of_slots s)) (sym is) (record {
      nodes = let n = l.nodes in let e = total-rekeyed paths_total paths_exact (λ _ _. 1) f (slots g) (differ_slots g t) d in omega arith;
      blocks = let n = l.blocks in let e = total-rekeyed paths_total paths_exact (λ _ node. length (blocks_of node.kind)) f (slots g) (differ_slots g t) d in omega arith;
      each = λ q node at.
          let i = found paths_total paths_exact (map (rekey_slot f) (slots g)) q node at in
          let r = rekeyed_from f (slot_at (slots g) i.0) q node (sym (slot_map f (slots g) i.0) ∙ i.1) in
          l.each r.0 node (hit paths_total paths_exact (slots g) i.0 r.0 node (differ_slots g t) r.1);
    })

-- ---- for those who change a namespace

at_key : (m : Nodes) (p q : Names) (node x : Node) → ((q : Names) (x : Node) → get m q ≡ Some x → IsNode x) → IsNode node → get (insert m p node) q ≡ Some x → IsNode x
at_key m p q node x each ok is =
    elim (eq_by_cmp path_cmp q p) as (λ b. cond b (Some node) (get m q) ≡ Some x → IsNode x) [
      | true ↦ λ is. subst IsNode (some_is _ _ is) ok
      | false ↦ λ is. each q x is
    ] (sym (get-insert paths_total m p node q) ∙ is)

-- a further node
pub limits_insert : (m : Nodes) (p : Names) (node : Node) → IsWithinLimits m → get m p ≡ None → IsNode node → node_count m < most_nodes → block_count m + length (blocks_of node.kind) ≤ most_blocks → IsWithinLimits (insert m p node)
limits_insert m p node h none ok nodes blocks = record {
  nodes = let e = total-insert path_cmp paths_total (λ (_ : Names) (_ : Node). 1) m p node none in omega arith;
  blocks = let e = total-insert path_cmp paths_total (λ (_ : Names) (node : Node). length (blocks_of node.kind)) m p node none in omega arith;
  each = λ q x is. at_key m p q node x h.each ok is;
}

-- another node at a path
pub limits_change_at : (m : Nodes) (p : Names) (f : Node → Node) (node : Node) → IsWithinLimits m → get m p ≡ Some node → IsNode (f node) → block_count m + length (blocks_of (f node).kind) ≤ most_blocks + length (blocks_of node.kind) → IsWithinLimits (change_at p f m)
limits_change_at m p f node h is ok blocks =
    subst IsWithinLimits (sym (ap (λ o. elim o as (λ _. Nodes) [ None ↦ m | Some x ↦ insert m p (f x) ]) is)) (record {
      nodes = let n = h.nodes in let e = total-insert_old path_cmp paths_total paths_exact (λ (_ : Names) (_ : Node). 1) m p (f node) node is in omega arith;
      blocks = let e = total-insert_old path_cmp paths_total paths_exact (λ (_ : Names) (node : Node). length (blocks_of node.kind)) m p (f node) node is in omega arith;
      each = λ q x at. at_key m p q (f node) x h.each ok at;
    })

-- one block more in a file
block_is_kind : (block : Block) (kind : Kind) → IsKind kind → IsBlock block → length (blocks_of kind) < most_blocks_of_file → IsKind (add_block block kind)
block_is_kind block (File replication is_open blocks) h ok few = record {
  replicated = λ r is. h.replicated r is;
  few = omega (arith, length-append blocks (block ∷ []));
  blocks = All-push IsBlock blocks block h.blocks ok;
  names = λ n is. h.names n is;
  space = λ n is. h.space n is;
}
block_is_kind block (Dir quota) h ok few = h

one_block_more : (block : Block) (kind : Kind) → length (blocks_of (add_block block kind)) ≤ length (blocks_of kind) + 1
one_block_more block (File replication is_open blocks) = omega (arith, length-append blocks (block ∷ []))
one_block_more block (Dir quota) = omega arith

pub limits_block : (m : Nodes) (p : Names) (block : Block) (node : Node) → IsWithinLimits m → get m p ≡ Some node → IsBlock block → length (blocks_of node.kind) < most_blocks_of_file → block_count m < most_blocks → IsWithinLimits (change_at p (with_block block) m)
limits_block m p block node h is ok few room =
    let old = h.each p node is in
    limits_change_at m p (with_block block) node h is
    (record { id = old.id; mode = old.mode; time = old.time; kind = block_is_kind block node.kind old.kind ok few })
    (let one = one_block_more block node.kind in omega arith)

-- an earlier or later time of a node
pub limits_time : (m : Nodes) (p : Names) (time : ℕ) (node : Node) → IsWithinLimits m → get m p ≡ Some node → IsLong time → IsWithinLimits (change_at p (changed (Time time)) m)
limits_time m p time node h is ok =
    let old = h.each p node is in
    let most = h.blocks in
    limits_change_at m p (changed (Time time)) node h is
    (record { id = old.id; mode = old.mode; time = ok; kind = old.kind })
    (omega arith)

-- the empty namespace
root_is_node : IsNode root_node
root_is_node = record {
  id = omega arith;
  mode = omega arith;
  time = omega arith;
  kind = record { replicated = λ r is. cc; few = omega arith; blocks = λ k d lt. absurd (omega arith); names = λ n is. cc; space = λ n is. cc };
}

pub limits_empty : IsWithinLimits (insert empty [] root_node)
limits_empty =
    let none = get-empty {X = Node} path_cmp [] in
    record {
      nodes = let e = total-insert path_cmp paths_total (λ (_ : Names) (_ : Node). 1) empty [] root_node none in let z = total-empty {X = Node} path_cmp (λ _ _. 1) in omega arith;
      blocks = let e = total-insert path_cmp paths_total (λ (_ : Names) (node : Node). length (blocks_of node.kind)) empty [] root_node none in let z = total-empty {X = Node} path_cmp (λ _ node. length (blocks_of node.kind)) in omega arith;
      each = λ q x is. at_key empty [] q root_node x (λ q x at. let e = get-empty {X = Node} path_cmp q in cc) root_is_node is;
    }
