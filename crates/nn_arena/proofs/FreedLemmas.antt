-- A leaf is taken out, and its place goes before the free ones.
use Rattle.std.proofs.Common.{◌≡◌, ◌≢◌, ℕ, suc, ◌+◌, ◌<◌, true, inl, inr, [], ◌++◌, List, length, take, drop, Option, Some, None, sym, ap, subst, ◌∙◌, arith}
use Rattle.std.specs.Prelude.{option_map, option_and_then}
use Rattle.std.proofs.Math.ListN.{set, length-set}
use Rattle.std.proofs.Math.Logic.{∥∥₁_map}
use Rattle.std.proofs.lemmas.Bool.{cases_eq}
use Rattle.nn_tree.specs.Nodes.{blocks_of}
use Rattle.nn_tree.specs.Namespace.{node_count, block_count}
use Rattle.nn_tree.specs.Limits.{IsWithinLimits}
use Rattle.nn_tree.specs.Changes.{cut}
use Rattle.nn_tree.specs.Links.{Links, nodes_of, place_of, has_place, IsTree}
use Rattle.nn_tree.specs.Plain.{IsLeast}
use Rattle.nn_tree.proofs.LinksLemmas.{path_of_place}
use Rattle.nn_tree.proofs.LimitsLemmas.{limits_cut}
use Rattle.nn_tree.proofs.CutLoop.{written_back}
use Rattle.nn_tree.proofs.CutLemmas.{nodes_cut, tree_cut}
use Rattle.nn_tree.proofs.PlainLemmas.{slice_set_same, slice_set_other}
use Rattle.nn_arena.specs.declared.place.Entry.{Entry}
use Rattle.nn_arena.specs.declared.place.Place.{Place}
use Rattle.nn_arena.specs.declared.place.Place.TheVariants.{Free}
use Rattle.nn_arena.specs.Places.{name_of, entry_of, entry_at, link_of, links_of, unlinked, AreAlikeBut}
use Rattle.nn_arena.specs.Children.{AreLinked}
use Rattle.nn_arena.specs.FreeList.{IsFreeList}
use Rattle.nn_arena.specs.Changes.{IsTaken}
use Rattle.nn_arena.proofs.PlaceLemmas.{entry_read, place_at, entry_within}
use Rattle.nn_arena.proofs.FreeLemmas.{pushed}
use Rattle.nn_arena.proofs.FillLemmas.{alike_free}
use Rattle.nn_arena.proofs.LeafLemmas.{leaf_cuts, total_leaf}

-- ---- the same entries are linked alike

pub same_links : (ps qs : List Place) → length qs ≡ length ps → ((j : ℕ) → entry_at qs j ≡ entry_at ps j) → links_of qs ≡ links_of ps
same_links ps qs size same = λ t. record { at = λ j. option_map link_of (same j t); size = size t }

pub same_linked : (ps qs : List Place) → length qs ≡ length ps → ((j : ℕ) → entry_at qs j ≡ entry_at ps j) → AreLinked ps → AreLinked qs
same_linked ps qs size same linked =
    let links = same_links ps qs size same in
    record {
      first = λ j e is. subst (λ (g : Links). IsLeast g j [] g.size e.first) (sym links) (linked.first j e (sym (same j) ∙ is));
      next = λ j e is. subst (λ (g : Links). IsLeast g e.parent (name_of e) g.size e.next) (sym links) (linked.next j e (sym (same (suc j)) ∙ is));
    }

-- ---- all that freeing a leaf promises

pub record Freed (ps qs : List Place) (i : ℕ) (e : Entry) : Type 0 where
  pub alike : AreAlikeBut ps qs i
  pub free : entry_at qs i ≡ None
  pub tree : IsTree (links_of qs)
  pub linked : AreLinked qs
  pub list : ∥ IsFreeList qs (Some i) ∥₁
  pub nodes : nodes_of (links_of qs) ≡ cut (place_of (links_of ps) i) (nodes_of (links_of ps))
  pub limits : IsWithinLimits (nodes_of (links_of qs))
  pub counted : block_count (nodes_of (links_of ps)) ≡ length (blocks_of e.node.kind) + block_count (nodes_of (links_of qs))
  pub fewer : node_count (nodes_of (links_of ps)) ≡ suc (node_count (nodes_of (links_of qs)))

module _ (ps mid : List Place) (i : ℕ) (e : Entry) (o : Option ℕ) (tree : IsTree (links_of ps)) (linked : AreLinked ps) (list : ∥ IsFreeList ps o ∥₁) (limits : IsWithinLimits (nodes_of (links_of ps)))
    (there : entry_at ps i ≡ Some e) (has : has_place (links_of ps) i ≡ true) (below_root : 0 < i) (leaf : e.first ≡ None) (t : IsTaken ps mid i e) where
  abbrev qs : List Place
  qs = set mid i (Free o)

  within : i < length mid
  within = let s = t.alike.size in let w = entry_within ps i e there in omega arith

  same : (j : ℕ) → entry_at qs j ≡ entry_at mid j
  same j = elim (cases_eq j i) as (λ _. entry_at qs j ≡ entry_at mid j) [
    | inl is ↦ ap (entry_at qs) is ∙ entry_read qs i (Free o) (slice_set_same mid i (Free o) within) ∙ sym (ap (entry_at mid) is ∙ t.free)
    | inr other ↦ ap (option_and_then entry_of) (slice_set_other mid i j (Free o) other)
  ]

  alike : AreAlikeBut ps qs i
  alike = record { size = length-set mid i (Free o) ∙ t.alike.size; each = λ j other. ap (option_map unlinked) (slice_set_other mid i j (Free o) other) ∙ t.alike.each j other }

  free : entry_at qs i ≡ None
  free = same i ∙ t.free

  not_top : place_of (links_of ps) i ≢ []
  not_top root = let z : i ≡ 0 = tree.differ i 0 [] (path_of_place (links_of ps) i has ∙ ap Some root) tree.root in absurd (omega arith)

  nodes : nodes_of (links_of qs) ≡ cut (place_of (links_of ps) i) (nodes_of (links_of ps))
  nodes = nodes_cut (links_of ps) (links_of qs) (place_of (links_of ps) i) _ tree (leaf_cuts ps i e tree linked there has leaf qs alike free) not_top

  pub freed : Freed ps (set mid i (Free o)) i e
  freed = record {
    alike = alike;
    free = free;
    tree = tree_cut (links_of ps) (links_of qs) (place_of (links_of ps) i) _ tree (leaf_cuts ps i e tree linked there has leaf qs alike free) not_top;
    linked = same_linked mid qs (length-set mid i (Free o)) same t.linked;
    list = ∥∥₁_map list (λ l. pushed ps qs i e o l (let p = place_at ps i e there in p.is) (slice_set_same mid i (Free o) within) (λ j n other is. alike_free ps qs j n (alike.each j other) is) (λ j n other is. alike_free qs ps j n (sym (alike.each j other)) is));
    nodes = nodes;
    limits = subst IsWithinLimits (sym nodes) (limits_cut (nodes_of (links_of ps)) (place_of (links_of ps) i) limits);
    counted = total_leaf ps i e tree linked there has leaf (λ p node. length (blocks_of node.kind)) ∙ ap (λ m. length (blocks_of e.node.kind) + block_count m) (sym nodes);
    fewer = let a = total_leaf ps i e tree linked there has leaf (λ p node. 1) in let b = ap node_count (sym nodes) in omega arith;
  }

-- the same of places that are written through their slice
pub freed_in : (n : ℕ) (ps ys mid : List Place) (i : ℕ) (e : Entry) (o : Option ℕ) → ys ≡ ps → n ≡ length ps → IsTree (links_of ps) → AreLinked ps → ∥ IsFreeList ps o ∥₁ → IsWithinLimits (nodes_of (links_of ps))
    → has_place (links_of ps) i ≡ true → 0 < i → ((e : Entry) → entry_at ps i ≡ Some e → e.first ≡ None) → entry_at ys i ≡ Some e → IsTaken ys mid i e → Freed ps (set (take n (mid ++ drop (length mid) ps)) i (Free o)) i e
freed_in n ps ys mid i e o same len tree linked list limits has below_root leaf there t =
    let at : entry_at ps i ≡ Some e = ap (λ (zs : List Place). entry_at zs i) (sym same) ∙ there in
    let u : IsTaken ps mid i e = subst (λ (zs : List Place). IsTaken zs mid i e) same t in
    let back : take n (mid ++ drop (length mid) ps) ≡ mid = written_back n mid ps len u.alike.size in
    subst (λ (zs : List Place). Freed ps (set zs i (Free o)) i e) (sym back) (freed ps mid i e o tree linked list limits at has below_root (leaf e at) u)
