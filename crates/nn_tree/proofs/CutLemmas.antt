-- To free a place with all below it is to cut its path.
use Rattle.std.proofs.Common.{◌≡◌, ◌≢◌, ℕ, zero, suc, ◌<◌, Bool, true, false, not, cond, List, [], ◌∷◌, ◌++◌, ◌&&◌, map, Option, Some, None, refl, sym, ap, ◌∙◌, arith, is_some, unwrap_or}
use Rattle.std.specs.Prelude.{option_and_then, option_map}
use Rattle.std.proofs.lemmas.List.{ext_get_or, length-map}
use Rattle.nn_base.specs.Paths.{Names, is_under}
use Rattle.nn_base.proofs.PlainLemmas.{some_of}
use Rattle.nn_tree.specs.declared.node.Node.{Node}
use Rattle.nn_tree.specs.declared.spot.Spot.{Spot}
use Rattle.nn_tree.specs.Slots.{of_slots, slot_at}
use Rattle.nn_tree.specs.Links.{Link, Links, up, path_at, slot, slots, nodes_of, IsTree, has_place, place_of}
use Rattle.nn_tree.proofs.ClimbLemmas.{IsBounded, above, below, is_live, path_found}
use Rattle.nn_tree.proofs.LinksLemmas.{paths_total, paths_exact, slot_is, length_slots, path_live, path_of_place}
use Rattle.nn_tree.specs.Slots.{keep_slot}
use Rattle.nn_tree.specs.Changes.{cut}
use Rattle.nn_tree.specs.Spots.{Removes}
use Rattle.nn_tree.proofs.KeptLemmas.{slots_kept}
use Rattle.nn_tree.proofs.PrefixLemmas.{under_itself, under_none, under_push}

slot_keep : {K X : Type 0} (p : K → Bool) (s : List (Option (K × X))) (i : ℕ) → slot_at (map (keep_slot p) s) i ≡ keep_slot p (slot_at s i)
slot_keep p [] i = refl
slot_keep p (o ∷ s) zero = refl
slot_keep p (o ∷ s) (suc i) = slot_keep p s i

-- h is g without the places that a test tells, those at and below p
pub record Cuts (g h : Links) (p : Names) (gone : ℕ → Bool) : Type 0 where
  pub size : h.size ≡ g.size
  pub each : (j : ℕ) → h.at j ≡ cond (gone j) None (g.at j)
  pub told : (j : ℕ) (r : Names) → path_at g j ≡ Some r → gone j ≡ is_under p r

-- a place in use that is left was in use, and stands outside
record Left (g : Links) (p : Names) (j : ℕ) (l : Link) : Type 0 where
  live : g.at j ≡ Some l
  path : Names
  is : path_at g j ≡ Some path
  out : is_under p path ≡ false

module _ (g h : Links) (p : Names) (gone : ℕ → Bool) (t : IsTree g) (c : Cuts g h p gone) (below_root : p ≢ []) where
  live_cut : (j : ℕ) (b : Bool) → gone j ≡ b → h.at j ≡ cond b None (g.at j)
  live_cut j b is = c.each j ∙ ap (λ b. cond b None (g.at j)) is

  bounded : IsBounded h
  bounded j l live = elim (gone j) as (λ b. gone j ≡ b → j < h.size) [
    | true ↦ λ is. (let e = live_cut j true is in cc)
    | false ↦ λ is. (let w = t.within j l (sym (live_cut j false is) ∙ live) in let e = c.size in omega arith)
  ] refl

  survives : (n j : ℕ) (r : Names) → up g j n ≡ Some r → is_under p r ≡ false → up h j n ≡ Some r
  survives n zero r is out = ap (option_map (λ l. [])) (live_cut 0 false (c.told 0 r (path_found g t.within n 0 r is) ∙ out)) ∙ is
  survives zero (suc j) r is out = cc
  survives (suc n) (suc j) r is out =
      let u = above g j (suc n) r is in
      let k : u.m ≡ n = omega (arith, u.fuel) in
      let self : p ≢ u.front ++ u.link.name ∷ [] = λ e. let x = under_itself p in let y = ap (is_under p) (e ∙ sym u.is) in cc in
      let front : is_under p u.front ≡ false = sym (under_push p u.front u.link.name self) ∙ ap (is_under p) (sym u.is) ∙ out in
      below h j n u.link u.front (live_cut (suc j) false (c.told (suc j) r (path_found g t.within (suc n) (suc j) r is) ∙ out) ∙ u.live)
      (survives n u.link.parent u.front (ap (up g u.link.parent) (sym k) ∙ u.parent) front) ∙ ap Some (sym u.is)

  no_path : (j : ℕ) → h.at j ≡ None → path_at h j ≡ None
  unfolding path_at
  no_path j free = elim (path_at h j) as (λ o. path_at h j ≡ o → o ≡ None) [ None ↦ λ _. refl | Some r ↦ λ is. (let l = is_live h j h.size r is in let k = l.1 in cc) ] refl

  path_left : (j : ℕ) (r : Names) → path_at g j ≡ Some r → is_under p r ≡ false → path_at h j ≡ Some r
  unfolding path_at
  path_left j r is out = path_found h bounded g.size j r (survives g.size j r is out)

  path_gone : (j : ℕ) (r : Names) → path_at g j ≡ Some r → is_under p r ≡ true → path_at h j ≡ None
  path_gone j r is in_it = no_path j (live_cut j true (c.told j r is ∙ in_it))

  left : (j : ℕ) (l : Link) → h.at j ≡ Some l → Left g p j l
  left j l now = elim (gone j) as (λ b. gone j ≡ b → Left g p j l) [
    | true ↦ λ is. (let z = live_cut j true is in cc)
    | false ↦ λ is.
        let old = sym (live_cut j false is) ∙ now in
        let s = some_of (path_at g j) (t.reaches j l old) in
        record { live = old; path = s.0; is = s.1; out = sym (c.told j s.0 s.1) ∙ is }
  ] refl

  free_stays : (j : ℕ) → g.at j ≡ None → h.at j ≡ None
  free_stays j free = elim (gone j) as (λ b. gone j ≡ b → h.at j ≡ None) [ true ↦ λ is. live_cut j true is | false ↦ λ is. live_cut j false is ∙ free ] refl

  slot_cut : (j : ℕ) → slot h j ≡ keep_slot (λ q. not (is_under p q)) (slot g j)
  unfolding slot
  slot_cut j = elim (g.at j) as (λ o. g.at j ≡ o → option_and_then {U = Names × Node} (λ l. option_map (λ p. (p, l.node)) (path_at h j)) (h.at j) ≡ keep_slot (λ q. not (is_under p q)) (option_and_then {U = Names × Node} (λ l. option_map (λ p. (p, l.node)) (path_at g j)) o)) [
    | None ↦ λ free. ap (option_and_then {U = Names × Node} (λ l. option_map (λ p. (p, l.node)) (path_at h j))) (free_stays j free)
    | Some l ↦ λ live. let s = some_of (path_at g j) (t.reaches j l live) in by l live s.0 s.1 (is_under p s.0) refl
  ] refl
    where
      by : (l : Link) → g.at j ≡ Some l → (r : Names) → path_at g j ≡ Some r → (b : Bool) → is_under p r ≡ b
          → option_and_then {U = Names × Node} (λ l. option_map (λ p. (p, l.node)) (path_at h j)) (h.at j) ≡ keep_slot (λ q. not (is_under p q)) (option_map {U = Names × Node} (λ p. (p, l.node)) (path_at g j))
      by l live r is true u =
          ap (option_and_then {U = Names × Node} (λ l. option_map (λ p. (p, l.node)) (path_at h j))) (live_cut j true (c.told j r is ∙ u))
          ∙ sym (ap (λ o. keep_slot (λ q. not (is_under p q)) (option_map {U = Names × Node} (λ p. (p, l.node)) o)) is ∙ ap (λ b. cond (not b) (Some (r, l.node)) None) u)
      by l live r is false u =
          ap (option_and_then {U = Names × Node} (λ l. option_map (λ p. (p, l.node)) (path_at h j))) (live_cut j false (c.told j r is ∙ u) ∙ live)
          ∙ ap (option_map {U = Names × Node} (λ p. (p, l.node))) (path_left j r is u)
          ∙ sym (ap (λ o. keep_slot (λ q. not (is_under p q)) (option_map {U = Names × Node} (λ p. (p, l.node)) o)) is ∙ ap (λ b. cond (not b) (Some (r, l.node)) None) u)

  pub slots_cut : slots h ≡ map (keep_slot (λ q. not (is_under p q))) (slots g)
  slots_cut = ext_get_or None _ _ (length_slots h ∙ c.size ∙ sym (length-map (slots g) (keep_slot (λ q. not (is_under p q))) ∙ length_slots g))
      (λ j lt. slot_is h bounded j ∙ slot_cut j ∙ ap (keep_slot (λ q. not (is_under p q))) (sym (slot_is g t.within j)) ∙ sym (slot_keep (λ q. not (is_under p q)) (slots g) j))

  pub nodes_cut : nodes_of h ≡ cut p (nodes_of g)
  nodes_cut = ap of_slots slots_cut ∙ slots_kept paths_total paths_exact (λ q. not (is_under p q)) (slots g)

  was_path : (j : ℕ) (r : Names) → path_at h j ≡ Some r → path_at g j ≡ Some r
  was_path j r is = let l = path_live h j r is in let w = left j l.0 l.1 in w.is ∙ sym (path_left j w.path w.is w.out) ∙ is

  pub tree_cut : IsTree h
  tree_cut = record {
    within = bounded;
    root = path_left 0 [] t.root (under_none p below_root);
    top = λ l now. let w = left 0 l now in t.top l w.live;
    unnamed = λ l now. let w = left 0 l now in t.unnamed l w.live;
    reaches = λ j l now. let w = left j l now in ap is_some (path_left j w.path w.is w.out);
    differ = λ j k q x y. t.differ j k q (was_path j q x) (was_path k q y);
    dirs = λ j l d now up. let v = left (suc j) l now in let w = left l.parent d up in t.dirs j l d v.live w.live;
    names = λ j l now. let w = left (suc j) l now in t.names j l w.live;
  }

  has_left : (j : ℕ) → has_place h j ≡ (has_place g j && not (is_under p (place_of g j)))
  has_left j = elim (path_at g j) as (λ o. path_at g j ≡ o → is_some (path_at h j) ≡ (is_some o && not (is_under p (unwrap_or o [])))) [
    | None ↦ λ none. elim (path_at h j) as (λ o. path_at h j ≡ o → is_some o ≡ false) [ None ↦ λ _. refl | Some r ↦ λ is. (let w = was_path j r is in cc) ] refl
    | Some r ↦ λ is. elim (is_under p r) as (λ b. is_under p r ≡ b → is_some (path_at h j) ≡ not b) [ true ↦ λ u. ap is_some (path_gone j r is u) | false ↦ λ u. ap is_some (path_left j r is u) ] refl
  ] refl

  place_left : (j : ℕ) → has_place h j ≡ true → place_of h j ≡ place_of g j
  place_left j has = sym (ap (λ o. unwrap_or o []) (was_path j _ (path_of_place h j has)))

  pub removes_cut : Removes p (λ (s : Spot). has_place g s.index) (λ s. has_place h s.index) (λ s. place_of g s.index) (λ s. place_of h s.index)
  removes_cut = record { left = λ s. has_left s.index; same = λ s has. place_left s.index has }
