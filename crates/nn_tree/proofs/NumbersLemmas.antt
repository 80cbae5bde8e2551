-- How often the nodes of a namespace have a number, under each change.
use Rattle.std.proofs.Common.{◌≡◌, ℕ, ◌+◌, ◌<◌, ◌≤◌, List, [], ◌∷◌, ◌++◌, map, Option, Some, None, refl, sym, ap, subst, ◌∙◌, arith}
use Rattle.std.specs.Prelude.{All}
use Rattle.std.specs.List.{flat_map}
use Rattle.std.specs.FinMap.{get, insert, entries}
use Rattle.std.proofs.lemmas.List.Concat.{flat_map_single, flat_map-cons}
use Rattle.std.proofs.lemmas.List.Elements.{All-map, All-nil, All-cons, All-head, All-tail}
use Rattle.std.proofs.lemmas.List.{map-append}
use Rattle.nn_base.specs.Paths.{Names, path_cmp, is_under}
use Rattle.std.specs.Prelude.{not}
use Rattle.nn_tree.specs.declared.node.Block.{Block}
use Rattle.nn_tree.specs.declared.node.Node.{Node}
use Rattle.nn_tree.specs.Nodes.{blocks_of}
use Rattle.nn_tree.specs.Namespace.{Namespace, Nodes}
use Rattle.nn_tree.specs.Imaged.{AreGiven, blocks_of_files, IsImaged}
use Rattle.nn_tree.specs.Changes.{change_at, cut}
use Rattle.nn_tree.specs.Totals.{total}
use Rattle.nn_tree.proofs.TotalsLemmas.{total-insert, total-insert_old}
use Rattle.nn_tree.proofs.LinksLemmas.{paths_total, paths_exact}
use Rattle.nn_tree.proofs.LimitsLemmas.{kept_le}
use Rattle.nn_tree.proofs.CountedLemmas.{times, times-joined, distinct_so, distinct_back, within_so, within_back}

-- how often the nodes have a number
abbrev pub uses : (Node → List ℕ) → ℕ → Nodes → ℕ
uses f id m = total (λ (p : Names) x. times id (f x)) m

-- no number stands twice, and none is above the last
pub record AreFresh (f : Node → List ℕ) (m : Nodes) (last : ℕ) : Type 0 where
  pub once : (id : ℕ) → uses f id m ≤ 1
  pub within : (id : ℕ) → last < id → uses f id m ≡ 0

abbrev numbers : (Node → List ℕ) → Nodes → List ℕ
numbers f m = flat_map (λ (e : Names × Node). f e.1) (entries m)

module _ (f : Node → List ℕ) (m : Nodes) (last : ℕ) where
  counted : (id : ℕ) → times id (numbers f m) ≡ uses f id m
  counted id = times-joined id (λ (e : Names × Node). f e.1) (entries m)

  given_so : AreFresh f m last → AreGiven (numbers f m) last
  given_so h = record {
    once = distinct_so (numbers f m) (λ id. let a = counted id in let b = h.once id in omega arith);
    within = within_so last (numbers f m) (λ id above. counted id ∙ h.within id above);
  }

  fresh_so : AreGiven (numbers f m) last → AreFresh f m last
  fresh_so h = record {
    once = λ id. let a = counted id in let b = distinct_back (numbers f m) h.once id in omega arith;
    within = λ id above. sym (counted id) ∙ within_back last (numbers f m) h.within id above;
  }

-- ---- the numbers of a node

abbrev pub id_in : Node → List ℕ
id_in x = x.id ∷ []

abbrev pub block_ids_in : Node → List ℕ
block_ids_in x = map (λ b. b.id) (blocks_of x.kind)

abbrev pub stamps_in : Node → List ℕ
stamps_in x = map (λ b. b.stamp) (blocks_of x.kind)

map_joined : {A B : Type 0} (f : B → ℕ) (g : A → List B) (xs : List A) → map f (flat_map g xs) ≡ flat_map (λ x. map f (g x)) xs
map_joined f g [] = refl
map_joined f g (x ∷ xs) = ap (map f) (flat_map-cons g x xs) ∙ map-append f (g x) (flat_map g xs) ∙ ap (λ ys. map f (g x) ++ ys) (map_joined f g xs) ∙ sym (flat_map-cons (λ x. map f (g x)) x xs)

of_blocks : (f : Block → ℕ) (m : Nodes) → map f (blocks_of_files m) ≡ numbers (λ x. map f (blocks_of x.kind)) m
of_blocks f m = map_joined f (λ (e : Names × Node). blocks_of e.1.kind) (entries m)

all_map : {A : Type 0} (P : ℕ → Type 0) (f : A → ℕ) (xs : List A) → All (λ x. P (f x)) xs → All P (map f xs)
all_map P f xs h = All-map P f xs h

all_back : {A : Type 0} (P : ℕ → Type 0) (f : A → ℕ) (xs : List A) → All P (map f xs) → All (λ x. P (f x)) xs
all_back P f [] h = All-nil (λ x. P (f x))
all_back P f (x ∷ xs) h = All-cons (λ x. P (f x)) x xs (All-head P (f x) (map f xs) h) (all_back P f xs (All-tail P (f x) (map f xs) h))

-- the numbers of a whole namespace
pub record AreNumbered (ns : Namespace) : Type 0 where
  pub inodes : AreFresh id_in ns.nodes ns.counters.inode
  pub blocks : AreFresh block_ids_in ns.nodes ns.counters.block
  pub stamps : (s : ℕ) → ns.counters.stamp < s → uses stamps_in s ns.nodes ≡ 0

pub numbered : (ns : Namespace) → IsImaged ns → AreNumbered ns
numbered ns h = record {
  inodes = fresh_so id_in ns.nodes ns.counters.inode (subst (λ xs. AreGiven xs ns.counters.inode) (sym (flat_map_single (λ (e : Names × Node). e.1.id) (entries ns.nodes))) h.inodes);
  blocks = fresh_so block_ids_in ns.nodes ns.counters.block (subst (λ xs. AreGiven xs ns.counters.block) (of_blocks (λ b. b.id) ns.nodes) h.blocks);
  stamps = λ s above. sym (counted stamps_in ns.nodes ns.counters.stamp s)
      ∙ within_back ns.counters.stamp (numbers stamps_in ns.nodes) (subst (All (λ s. s ≤ ns.counters.stamp)) (of_blocks (λ b. b.stamp) ns.nodes) (all_map (λ s. s ≤ ns.counters.stamp) (λ b. b.stamp) (blocks_of_files ns.nodes) h.stamps)) s above;
}

module _ (ns : Namespace) (h : AreNumbered ns) where
  pub inodes_given : AreGiven (map (λ (e : Names × Node). e.1.id) (entries ns.nodes)) ns.counters.inode
  inodes_given = subst (λ xs. AreGiven xs ns.counters.inode) (flat_map_single (λ (e : Names × Node). e.1.id) (entries ns.nodes)) (given_so id_in ns.nodes ns.counters.inode h.inodes)

  pub blocks_given : AreGiven (map (λ b. b.id) (blocks_of_files ns.nodes)) ns.counters.block
  blocks_given = subst (λ xs. AreGiven xs ns.counters.block) (sym (of_blocks (λ b. b.id) ns.nodes)) (given_so block_ids_in ns.nodes ns.counters.block h.blocks)

  pub stamps_given : All (λ b. b.stamp ≤ ns.counters.stamp) (blocks_of_files ns.nodes)
  stamps_given =
      all_back (λ s. s ≤ ns.counters.stamp) (λ b. b.stamp) (blocks_of_files ns.nodes)
      (subst (All (λ s. s ≤ ns.counters.stamp)) (sym (of_blocks (λ b. b.stamp) ns.nodes)) (within_so ns.counters.stamp (numbers stamps_in ns.nodes) (λ s above. counted stamps_in ns.nodes ns.counters.stamp s ∙ h.stamps s above)))

-- ---- under each change

pub uses_insert : (f : Node → List ℕ) (id : ℕ) (m : Nodes) (p : Names) (x : Node) → get m p ≡ None → uses f id (insert m p x) ≡ times id (f x) + uses f id m
uses_insert f id m p x free = total-insert path_cmp paths_total (λ (p : Names) x. times id (f x)) m p x free

pub uses_change : (f : Node → List ℕ) (id : ℕ) (m : Nodes) (p : Names) (g : Node → Node) (x : Node) → get m p ≡ Some x → uses f id (change_at p g m) + times id (f x) ≡ times id (f (g x)) + uses f id m
uses_change f id m p g x is =
    ap (λ (o : Option Node). uses f id (elim o as (λ _. Nodes) [ None ↦ m | Some x ↦ insert m p (g x) ]) + times id (f x)) is
    ∙ total-insert_old path_cmp paths_total paths_exact (λ (p : Names) x. times id (f x)) m p (g x) x is

-- where a change keeps them
pub uses_same : (f : Node → List ℕ) (id : ℕ) (m : Nodes) (p : Names) (g : Node → Node) → ((x : Node) → f (g x) ≡ f x) → uses f id (change_at p g m) ≡ uses f id m
uses_same f id m p g same = by (get m p) refl
  where
    by : (o : Option Node) → get m p ≡ o → uses f id (change_at p g m) ≡ uses f id m
    by None is = ap (λ (o : Option Node). uses f id (elim o as (λ _. Nodes) [ None ↦ m | Some x ↦ insert m p (g x) ])) is
    by (Some x) is = let a = uses_change f id m p g x is in let b = ap (times id) (same x) in omega arith

pub uses_cut : (f : Node → List ℕ) (id : ℕ) (m : Nodes) (p : Names) → uses f id (cut p m) ≤ uses f id m
uses_cut f id m p = kept_le (λ (p : Names) x. times id (f x)) m (λ q. not (is_under p q))
