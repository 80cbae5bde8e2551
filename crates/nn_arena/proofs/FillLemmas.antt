-- A new node at the first free place.
use Rattle.std.proofs.Common.{◌≡◌, ◌≢◌, ℕ, zero, suc, ◌<◌, true, false, [], ◌∷◌, ◌++◌, List, length, Option, Some, None, refl, sym, ap, ◌∙◌, arith, is_some, subst, take, drop}
use Rattle.std.specs.Prelude.{slice_get, option_map}
use Rattle.std.specs.FinMap.{get}
use Rattle.std.proofs.lemmas.Option.{slice_get_within}
use Rattle.nn_base.specs.Paths.{is_name}
use Rattle.nn_tree.specs.Namespace.{is_dir_at}
use Rattle.nn_tree.specs.Links.{Link, Links, nodes_of, place_of, has_place, IsTree}
use Rattle.nn_tree.specs.Plain.{is_child, IsLeast}
use Rattle.nn_tree.proofs.LinksLemmas.{path_of_place, path_live, node_found}
use Rattle.nn_tree.proofs.FindLemmas.{child_found}
use Rattle.nn_tree.proofs.FillLemmas.{Filled, filled}
use Rattle.nn_arena.specs.declared.place.Entry.{Entry}
use Rattle.nn_arena.specs.declared.place.Place.{Place}
use Rattle.nn_arena.specs.declared.place.Place.TheVariants.{Free, Used}
use Rattle.nn_arena.specs.Places.{name_of, entry_at, link_of, links_of, unlinked}
use Rattle.nn_arena.specs.Children.{AreLinked}
use Rattle.nn_arena.specs.FreeList.{IsFreeList}
use Rattle.nn_tree.proofs.CutLoop.{written_back}
use Rattle.std.specs.Coded.{le_prop, Coded-set, coded_bool}
use Rattle.std.proofs.Math.Logic.{∥∥₁_elim, ∥∥₁_map}
use Rattle.nn_arena.specs.Changes.{IsPut}
use Rattle.nn_arena.proofs.PlaceLemmas.{place_at, entry_at_live, free_entry, sets_place}
use Rattle.nn_arena.proofs.SiblingLemmas.{isnt, later_is}
use Rattle.nn_arena.proofs.FreeLemmas.{head, head_free, popped}
use Rattle.nn_arena.proofs.TakenLemmas.{parent_in_use}

-- ---- free places are the same on both sides of a step

free_is : (o : Option Place) (n : Option ℕ) → option_map unlinked o ≡ Some (Free n) → o ≡ Some (Free n)
free_is None n h = cc
free_is (Some (Free k)) n h = h
free_is (Some (Used e)) n h = cc

pub alike_free : (ps qs : List Place) (j : ℕ) (n : Option ℕ) → option_map unlinked (slice_get qs j) ≡ option_map unlinked (slice_get ps j) → slice_get ps j ≡ Some (Free n) → slice_get qs j ≡ Some (Free n)
alike_free ps qs j n same is = free_is (slice_get qs j) n (same ∙ ap (option_map unlinked) is)

-- ---- the first free place

free_within : (ps : List Place) (i : ℕ) → IsFreeList ps (Some i) → i < length ps
free_within ps i list = let h = head ps i list in slice_get_within ps i (Free h.next) h.is

none_of : {A : Type 0} (o : Option A) → is_some o ≡ false → o ≡ None
none_of None h = refl
none_of (Some x) h = cc

-- the first place of the list is free
pub record IsFreePlace (ps : List Place) (i : ℕ) : Type 0 where
  pub within : i < length ps
  pub none : entry_at ps i ≡ None

pub first_free : (ps : List Place) (o : Option ℕ) (i : ℕ) → ∥ IsFreeList ps o ∥₁ → o ≡ Some i → IsFreePlace ps i
first_free ps o i list first = record {
  within = ∥∥₁_elim list le_prop (λ l. free_within ps i (subst (IsFreeList ps) first l));
  none = none_of _ (∥∥₁_elim list (Coded-set coded_bool (is_some (entry_at ps i)) false) (λ l. ap is_some (head_free ps i (subst (IsFreeList ps) first l))));
}

module _ (ps : List Place) (i : ℕ) (tree : IsTree (links_of ps)) (free : entry_at ps i ≡ None) where
  pub free_below_root : 0 < i
  free_below_root = by i refl
    where
      by : (k : ℕ) → k ≡ i → 0 < k
      by zero is =
          let l = path_live (links_of ps) 0 [] tree.root in
          let e = entry_at_live ps 0 l.0 l.1 in
          let z : None ≡ Some e.entry = sym (ap (entry_at ps) is ∙ free) ∙ e.is in cc
      by (suc k) is = omega arith

  -- nothing stands below it
  pub free_childless : IsLeast (links_of ps) i [] (length ps) None
  free_childless = λ k lt. isnt _ (λ later.
      let c = later_is (links_of ps) i [] k later in
      let e = entry_at_live ps k c.link c.live in
      let parent : e.entry.parent ≡ i = ap (λ (l : Link). l.parent) (sym e.holds) ∙ c.parent in
      let used = parent_in_use ps k e.entry tree (positive k c.below_root) e.is in
      let z = ap is_some (ap (entry_at ps) parent ∙ free) in cc)
    where
      positive : (k : ℕ) → k ≢ 0 → 0 < k
      positive zero h = absurd (h refl)
      positive (suc k) h = omega arith

-- no child of a directory has a name that its path lacks
pub no_child : (g : Links) (a : ℕ) (x : List ℕ) → IsTree g → has_place g a ≡ true → get (nodes_of g) (place_of g a ++ x ∷ []) ≡ None → (k : ℕ) → is_child g a x k ≡ false
no_child g a x t has none k = isnt _ (λ child.
    let p = child_found g a (place_of g a) x k t (path_of_place g a has) child in
    let l = path_live g k (place_of g a ++ x ∷ []) p in
    let n = node_found g k (place_of g a ++ x ∷ []) l.0 t p l.1 in cc)

-- ---- what was put there

pub record IsFilled (ps qs : List Place) (i : ℕ) (e : Entry) : Type 0 where
  pub filled : Filled (links_of ps) (links_of qs) i (link_of e)
  pub linked : AreLinked qs

pub filled_place : (ps qs : List Place) (i : ℕ) (e : Entry) → IsTree (links_of ps) → IsFreePlace ps i → (put : IsPut ps qs i e) → has_place (links_of ps) e.parent ≡ true → is_name (name_of e) ≡ true
    → is_dir_at (nodes_of (links_of ps)) (place_of (links_of ps) e.parent) ≡ true → get (nodes_of (links_of ps)) (place_of (links_of ps) e.parent ++ name_of e ∷ []) ≡ None → IsFilled ps qs i e
filled_place ps qs i e tree f put has name dir none = record {
  filled = filled (links_of ps) (links_of qs) i (link_of e) tree (sets_place ps qs i (record e { next = put.next }) put.alike f.within put.here) (free_entry ps i f.none) has name dir none;
  linked = put.linked;
}

pub list_filled : (ps qs : List Place) (i : ℕ) (e : Entry) → (list : IsFreeList ps (Some i)) → (put : IsPut ps qs i e) → (next : Option ℕ) → slice_get ps i ≡ Some (Free next) → IsFreeList qs next
list_filled ps qs i e list put next is =
    popped ps qs i (record e { next = put.next }) list (let p = place_at qs i (record e { next = put.next }) put.here in p.is)
    (λ j n other free. alike_free ps qs j n (put.alike.each j other) free)
    (λ j n other free. alike_free qs ps j n (sym (put.alike.each j other)) free) next is

-- ---- as the vector is written through its slice

-- what is written back is what the slice was made
pub filled_back : (ps cur new : List Place) (n i : ℕ) (e : Entry) → cur ≡ ps → n ≡ length ps → IsTree (links_of ps) → IsFreePlace ps i → (put : IsPut cur new i e) → has_place (links_of ps) e.parent ≡ true → is_name (name_of e) ≡ true
    → is_dir_at (nodes_of (links_of ps)) (place_of (links_of ps) e.parent) ≡ true → get (nodes_of (links_of ps)) (place_of (links_of ps) e.parent ++ name_of e ∷ []) ≡ None → IsFilled ps (take n (new ++ drop (length new) ps)) i e
filled_back ps cur new n i e same len tree f put has name dir none =
    let p : IsPut ps new i e = subst (λ (ps : List Place). IsPut ps new i e) same put in
    subst (λ (qs : List Place). IsFilled ps qs i e) (sym (written_back n new ps len (let a = p.alike in a.size))) (filled_place ps new i e tree f p has name dir none)

pub list_back : (ps cur new : List Place) (n i : ℕ) (e : Entry) (o next : Option ℕ) → cur ≡ ps → n ≡ length ps → IsPut cur new i e → o ≡ Some i → slice_get ps i ≡ Some (Free next) → ∥ IsFreeList ps o ∥₁ → ∥ IsFreeList (take n (new ++ drop (length new) ps)) next ∥₁
list_back ps cur new n i e o next same len put first is list =
    let p : IsPut ps new i e = subst (λ (ps : List Place). IsPut ps new i e) same put in
    ∥∥₁_map list (λ l. subst (λ (qs : List Place). IsFreeList qs next) (sym (written_back n new ps len (let a = p.alike in a.size))) (list_filled ps new i e (subst (IsFreeList ps) first l) p next is))
