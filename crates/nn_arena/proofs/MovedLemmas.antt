-- All that a node promises that is taken out and put in elsewhere.
use Rattle.std.proofs.Common.{◌≡◌, ◌≢◌, ℕ, true, false, [], ◌∷◌, ◌++◌, inl, inr, List, map, length, take, drop, ◌<◌, Option, Some, None, sym, ap, subst, ◌∙◌, arith}
use Rattle.std.specs.Prelude.{slice_get}
use Rattle.std.specs.FinMap.{get}
use Rattle.std.proofs.Math.Logic.{∥∥₁_map}
use Rattle.std.proofs.lemmas.Bool.{cases_eq}
use Rattle.nn_base.specs.Paths.{Names, path_cmp, is_under, is_name}
use Rattle.nn_tree.specs.declared.node.Node.{Node}
use Rattle.nn_tree.specs.Totals.{total}
use Rattle.nn_tree.specs.Nodes.{blocks_of}
use Rattle.nn_tree.specs.Namespace.{block_count, is_dir_at}
use Rattle.nn_tree.specs.Limits.{IsWithinLimits}
use Rattle.nn_tree.specs.Slots.{of_slots, rekey_slot, Differ}
use Rattle.nn_tree.specs.Links.{Links, slots, nodes_of, place_of, has_place, IsTree}
use Rattle.nn_tree.specs.Plain.{is_child}
use Rattle.nn_tree.proofs.LinksLemmas.{paths_total, paths_exact, differ_slots}
use Rattle.nn_tree.proofs.KeptLemmas.{total-rekeyed}
use Rattle.nn_tree.proofs.LimitsLemmas.{limits_rekeyed}
use Rattle.nn_tree.proofs.PrefixLemmas.{under_itself}
use Rattle.nn_tree.proofs.CutLoop.{written_back}
use Rattle.nn_tree.proofs.MoveLemmas.{Moved}
use Rattle.nn_arena.specs.declared.place.Entry.{Entry}
use Rattle.nn_arena.specs.declared.place.Place.{Place}
use Rattle.nn_arena.specs.declared.place.Place.TheVariants.{Free, Used}
use Rattle.nn_arena.specs.Places.{name_of, entry_at, in_use, link_of, links_of}
use Rattle.nn_arena.specs.Children.{AreLinked, AreNamed, AreApart}
use Rattle.nn_arena.specs.FreeList.{IsFreeList}
use Rattle.nn_arena.specs.Changes.{IsAlikeAt, KeepNodes, IsTaken, IsPut}
use Rattle.nn_base.proofs.PlainLemmas.{some_is}
use Rattle.nn_arena.proofs.PlaceLemmas.{place_at}
use Rattle.nn_arena.proofs.FreeLemmas.{list_kept}
use Rattle.nn_arena.proofs.FillLemmas.{alike_free}
use Rattle.nn_arena.proofs.RemoveLemmas.{kept_entry}
use Rattle.nn_arena.proofs.RelinkLemmas.{taken_named, taken_apart, taken_within, taken_in_use, taken_no_child, moved_place}

-- as many blocks under other keys
pub blocks_rekeyed : (g h : Links) (f : Names → Names) → IsTree g → IsTree h → slots h ≡ map (rekey_slot f) (slots g) → block_count (nodes_of h) ≡ block_count (nodes_of g)
blocks_rekeyed g h f t u is =
    ap (λ (z : List (Option (Names × Node))). total (λ p node. length (blocks_of node.kind)) (of_slots {R = path_cmp} z)) is
    ∙ total-rekeyed paths_total paths_exact (λ p node. length (blocks_of node.kind)) f (slots g) (differ_slots g t) (subst (λ (z : List (Option (Names × Node))). Differ z) is (differ_slots h u))

-- the directory that it moves to is another place
pub other_place : (g : Links) (i a : ℕ) → is_under (place_of g i) (place_of g a) ≡ false → a ≢ i
other_place g i a outside same =
    let z : true ≡ false = sym (under_itself (place_of g i)) ∙ ap (λ k. is_under (place_of g i) (place_of g k)) (sym same) ∙ outside in cc

pub record Relinked (ps qs : List Place) (i : ℕ) (o : Option ℕ) (new : Entry) : Type 0 where
  pub moved : Moved (links_of ps) (links_of qs) i (link_of new)
  pub linked : AreLinked qs
  pub list : ∥ IsFreeList qs o ∥₁
  pub kept : KeepNodes ps qs
  pub limits : IsWithinLimits (nodes_of (links_of qs))
  pub counted : block_count (nodes_of (links_of qs)) ≡ block_count (nodes_of (links_of ps))

module _ (ps mid qs : List Place) (i : ℕ) (old new : Entry) (o : Option ℕ) (tree : IsTree (links_of ps)) (there : entry_at ps i ≡ Some old) (t : IsTaken ps mid i old) (put : IsPut mid qs i new)
    (node : new.node ≡ old.node) (usage : new.usage ≡ old.usage) where
  alike : (j : ℕ) → j ≢ i → IsAlikeAt ps qs j
  alike j other = put.alike.each j other ∙ t.alike.each j other

  relinked_kept : KeepNodes ps qs
  relinked_kept j e is = elim (cases_eq j i) as (λ _. (d : Entry) × (entry_at ps j ≡ Some d) × (e.usage ≡ d.usage) × (e.node ≡ d.node)) [
    | inl same ↦
        let one : record new { next = put.next } ≡ e = some_is _ _ (sym put.here ∙ ap (entry_at qs) (sym same) ∙ is) in
        (old, ap (entry_at ps) same ∙ there, ap (λ (d : Entry). d.usage) (sym one) ∙ usage, ap (λ (d : Entry). d.node) (sym one) ∙ node)
    | inr other ↦ kept_entry ps qs j e (alike j other) is
  ]

  free_stays : (j : ℕ) (n : Option ℕ) → slice_get ps j ≡ Some (Free n) → slice_get qs j ≡ Some (Free n)
  free_stays j n is =
      let other : j ≢ i = λ same. (let p = place_at ps i old there in let z : Some (Used old) ≡ Some (Free n) = sym p.is ∙ ap (slice_get ps) (sym same) ∙ is in cc) in
      alike_free ps qs j n (alike j other) is

  free_was : (j : ℕ) (n : Option ℕ) → slice_get qs j ≡ Some (Free n) → slice_get ps j ≡ Some (Free n)
  free_was j n is =
      let other : j ≢ i = λ same. (
      let p = place_at qs i (record new { next = put.next }) put.here in
      let z : Some (Used (record new { next = put.next })) ≡ Some (Free n) = sym p.is ∙ ap (slice_get qs) (sym same) ∙ is in cc
      ) in
      alike_free qs ps j n (sym (alike j other)) is

  pub relinked_all : ∥ IsFreeList ps o ∥₁ → IsWithinLimits (nodes_of (links_of ps)) → has_place (links_of ps) i ≡ true → place_of (links_of ps) i ≢ [] → has_place (links_of ps) new.parent ≡ true → is_name (name_of new) ≡ true
      → is_dir_at (nodes_of (links_of ps)) (place_of (links_of ps) new.parent) ≡ true → is_under (place_of (links_of ps) i) (place_of (links_of ps) new.parent) ≡ false
      → get (nodes_of (links_of ps)) (place_of (links_of ps) new.parent ++ name_of new ∷ []) ≡ None → Relinked ps qs i o new
  relinked_all list limits has below_root to name dir outside none =
      let m = moved_place ps mid i old tree there t qs new put has below_root node to name dir outside none in
      record {
        moved = m;
        linked = put.linked;
        list = ∥∥₁_map list (list_kept ps qs o free_stays free_was);
        kept = relinked_kept;
        limits = limits_rekeyed (links_of ps) (links_of qs) _ tree m.tree m.slots limits;
        counted = blocks_rekeyed (links_of ps) (links_of qs) _ tree m.tree m.slots;
      }

-- ---- the same of places that are written through their slice, twice

module _ (n : ℕ) (ps ys mid zs : List Place) (i : ℕ) (old : Entry) (same : ys ≡ ps) (len : n ≡ length ps) (again : zs ≡ take n (mid ++ drop (length mid) ps)) (tree : IsTree (links_of ps)) (at : entry_at ys i ≡ Some old) (out : IsTaken ys mid i old) where
  there : entry_at ps i ≡ Some old
  there = ap (λ (xs : List Place). entry_at xs i) (sym same) ∙ at

  t : IsTaken ps mid i old
  t = subst (λ (xs : List Place). IsTaken xs mid i old) same out

  between : zs ≡ mid
  between = again ∙ written_back n mid ps len t.alike.size

  pub between_named : AreNamed (links_of zs)
  between_named = subst (λ (xs : List Place). AreNamed (links_of xs)) (sym between) (taken_named ps mid i old tree there t)

  pub between_apart : AreApart (links_of zs)
  between_apart = subst (λ (xs : List Place). AreApart (links_of xs)) (sym between) (taken_apart ps mid i old tree there t)

  pub between_within : i < length zs
  between_within = subst (λ (xs : List Place). i < length xs) (sym between) (taken_within ps mid i old tree there t)

  pub between_in_use : (a : ℕ) → has_place (links_of ps) a ≡ true → is_under (place_of (links_of ps) i) (place_of (links_of ps) a) ≡ false → in_use zs a ≡ true
  between_in_use a has outside = ap (λ (xs : List Place). in_use xs a) between ∙ taken_in_use ps mid i old tree there t a has (other_place (links_of ps) i a outside)

  pub between_new : (a : ℕ) (x : List ℕ) → has_place (links_of ps) a ≡ true → get (nodes_of (links_of ps)) (place_of (links_of ps) a ++ x ∷ []) ≡ None → (k : ℕ) → is_child (links_of zs) a x k ≡ false
  between_new a x has none k = ap (λ (xs : List Place). is_child (links_of xs) a x k) between ∙ taken_no_child ps mid i old tree there t a x has none k

  pub relinked_in : (qs : List Place) (new : Entry) (o : Option ℕ) → IsPut zs qs i new → new.node ≡ old.node → new.usage ≡ old.usage → ∥ IsFreeList ps o ∥₁ → IsWithinLimits (nodes_of (links_of ps)) → has_place (links_of ps) i ≡ true → place_of (links_of ps) i ≢ []
      → has_place (links_of ps) new.parent ≡ true → is_name (name_of new) ≡ true → is_dir_at (nodes_of (links_of ps)) (place_of (links_of ps) new.parent) ≡ true → is_under (place_of (links_of ps) i) (place_of (links_of ps) new.parent) ≡ false
      → get (nodes_of (links_of ps)) (place_of (links_of ps) new.parent ++ name_of new ∷ []) ≡ None → Relinked ps (take n (qs ++ drop (length qs) (take n (mid ++ drop (length mid) ps)))) i o new
  relinked_in qs new o put node usage list limits has below_root to name dir outside none =
      let back : take n (mid ++ drop (length mid) ps) ≡ mid = written_back n mid ps len t.alike.size in
      let p : IsPut mid qs i new = subst (λ (xs : List Place). IsPut xs qs i new) between put in
      let size = t.alike.size in
      let len_mid : n ≡ length mid = omega arith in
      let whole : take n (qs ++ drop (length qs) (take n (mid ++ drop (length mid) ps))) ≡ qs = ap (λ (xs : List Place). take n (qs ++ drop (length qs) xs)) back ∙ written_back n qs mid len_mid p.alike.size in
      subst (λ (xs : List Place). Relinked ps xs i o new) (sym whole)
      (relinked_all ps mid qs i old new o tree there t p node usage list limits has below_root to name dir outside none)
