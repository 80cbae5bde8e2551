-- To fill a free place is to insert into the map.
use Rattle.std.proofs.Common.{◌≡◌, ◌≢◌, ℕ, zero, suc, ◌<◌, true, false, [], ◌∷◌, ◌++◌, inl, inr, map, Some, None, refl, sym, ap, subst, ◌∙◌, arith, is_some, unwrap_or}
use Rattle.std.specs.Prelude.{option_map}
use Rattle.std.specs.Option.{option_map_or}
use Rattle.std.specs.List.{range_with_len}
use Rattle.std.specs.FinMap.{get, insert, empty}
use Rattle.std.proofs.lemmas.Bool.{cases_eq}
use Rattle.nn_base.specs.Paths.{Names, path_cmp, is_name}
use Rattle.nn_base.proofs.PlainLemmas.{some_is}
use Rattle.nn_tree.specs.declared.spot.Spot.{Spot}
use Rattle.nn_tree.specs.Nodes.{is_dir}
use Rattle.nn_tree.specs.Namespace.{IsRoot, is_dir_at}
use Rattle.nn_tree.specs.Slots.{of_slots}
use Rattle.nn_tree.specs.Spots.{Keeps}
use Rattle.nn_tree.specs.Links.{Link, Links, up, path_at, slot, slots, nodes_of, IsTree, has_place, place_of}
use Rattle.nn_tree.proofs.ClimbLemmas.{IsBounded, above, below, is_live, path_found}
use Rattle.nn_tree.proofs.LinksLemmas.{paths_total, paths_exact, slot_empty, slot_of, slot_is, length_slots, node_found, path_live, path_of_place, under}
use Rattle.nn_tree.proofs.SlotsLemmas.{set_empty}
use Rattle.nn_tree.proofs.SetLemmas.{Sets, bounded_set, slots_set}

module _ (g h : Links) (i : ℕ) (l : Link) (q : Names) (t : IsTree g) (s : Sets g h i l) (free : g.at i ≡ None) (parent : path_at g l.parent ≡ Some q) (new : get (nodes_of g) (q ++ l.name ∷ []) ≡ None) where
  bounded : IsBounded h
  bounded = bounded_set g h i l t.within s

  apart : (j : ℕ) (k : Link) → g.at j ≡ Some k → j ≢ i
  apart j k live is = let e = ap g.at is in cc

  up_kept : (n j : ℕ) (p : Names) → up g j n ≡ Some p → up h j n ≡ Some p
  up_kept n zero p is = let k = is_live g zero n p is in ap (option_map (λ e. [])) (s.others zero (apart zero k.0 k.1)) ∙ is
  up_kept zero (suc j) p is = cc
  up_kept (suc n) (suc j) p is =
      let a = above g j (suc n) p is in
      let k : a.m ≡ n = omega (arith, a.fuel) in
      let u = up_kept n a.link.parent a.front (ap (up g a.link.parent) (sym k) ∙ a.parent) in
      below h j n a.link a.front (s.others (suc j) (apart (suc j) a.link a.live) ∙ a.live) u ∙ ap Some (sym a.is)

  pub fill_keeps : (j : ℕ) (p : Names) → path_at g j ≡ Some p → path_at h j ≡ Some p
  unfolding path_at
  fill_keeps j p is = path_found h bounded g.size j p (up_kept g.size j p is)

  path_same : (j : ℕ) → j ≢ i → path_at h j ≡ path_at g j
  unfolding path_at
  path_same j other = elim (path_at g j) as (λ o. path_at g j ≡ o → path_at h j ≡ o) [
    | Some p ↦ λ is. fill_keeps j p is
    | None ↦ λ is. elim (path_at h j) as (λ o. path_at h j ≡ o → o ≡ None) [
      | None ↦ λ _. refl
      | Some p ↦ λ has.
          let k = is_live h j h.size p has in
          let r = t.reaches j k.0 (sym (s.others j other) ∙ k.1) in
          let z = ap is_some is in cc
    ] refl
  ] refl

  not_root : i ≢ 0
  unfolding path_at
  not_root is = let k = is_live g zero g.size [] t.root in apart zero k.0 k.1 (sym is)

  pub filled_path : path_at h i ≡ Some (q ++ l.name ∷ [])
  unfolding path_at
  filled_path = at i refl
    where
      at : (j : ℕ) → j ≡ i → path_at h j ≡ Some (q ++ l.name ∷ [])
      at zero is = absurd (not_root (sym is))
      at (suc j) is = path_found h bounded (suc g.size) (suc j) _
          (below h j g.size l q (ap h.at is ∙ s.here) (up_kept g.size l.parent q parent))

  pub nodes_filled : nodes_of h ≡ insert (nodes_of g) (q ++ l.name ∷ []) l.node
  nodes_filled =
      ap of_slots (slots_set g h i l _ t.within s filled_path path_same)
      ∙ set_empty paths_total paths_exact (slots g) i (q ++ l.name ∷ []) l.node (let w = s.within in omega (arith, length_slots g)) (slot_is g t.within i ∙ slot_empty g i free) new

  clash : (k : ℕ) (p : Names) → k ≢ i → path_at h k ≡ Some p → Some p ≡ Some (q ++ l.name ∷ []) → ⊥
  clash k p other path is =
      let old = sym (path_same k other) ∙ path ∙ is in
      let x = path_live g k _ old in
      let f = node_found g k _ x.0 t old x.1 in cc

  parent_apart : l.parent ≢ i
  parent_apart = let p = path_live g l.parent q parent in apart l.parent p.0 p.1

  pub tree_filled : is_name l.name ≡ true → is_dir_at (nodes_of g) q ≡ true → IsTree h
  tree_filled name dir = record {
    within = bounded;
    root = path_same 0 (λ e. not_root (sym e)) ∙ t.root;
    top = λ k live. t.top k (sym (s.others 0 (λ e. not_root (sym e))) ∙ live);
    unnamed = λ k live. t.unnamed k (sym (s.others 0 (λ e. not_root (sym e))) ∙ live);
    reaches = λ j k live. elim (cases_eq j i) as (λ _. is_some (path_at h j) ≡ true) [
      | inl is ↦ ap (λ j. is_some (path_at h j)) is ∙ ap is_some filled_path
      | inr other ↦ ap is_some (path_same j other) ∙ t.reaches j k (sym (s.others j other) ∙ live)
    ];
    differ = λ j k p a b. elim (cases_eq j i) as (λ _. j ≡ k) [
      | inl x ↦ elim (cases_eq k i) as (λ _. j ≡ k) [ inl y ↦ x ∙ sym y | inr y ↦ absurd (clash k p y b (sym a ∙ ap (path_at h) x ∙ filled_path)) ]
      | inr x ↦ elim (cases_eq k i) as (λ _. j ≡ k) [
        | inl y ↦ absurd (clash j p x a (sym b ∙ ap (path_at h) y ∙ filled_path))
        | inr y ↦ t.differ j k p (sym (path_same j x) ∙ a) (sym (path_same k y) ∙ b)
      ]
    ];
    dirs = λ j k d live up. elim (cases_eq (suc j) i) as (λ _. is_dir d.node.kind ≡ true) [
      | inl is ↦
          let e : l ≡ k = some_is _ _ (sym s.here ∙ ap h.at (sym is) ∙ live) in
          let old : g.at l.parent ≡ Some d = sym (s.others l.parent parent_apart) ∙ ap (λ (k : Link). h.at k.parent) e ∙ up in
          let n = node_found g l.parent q d t parent old in
          sym (ap (λ o. option_map_or (λ node. is_dir node.kind) o false) n) ∙ dir
      | inr other ↦
          let old = sym (s.others (suc j) other) ∙ live in
          let u = under g j k t old in
          let p = path_live g k.parent u.front u.parent in
          t.dirs j k d old (sym (s.others k.parent (apart k.parent p.0 p.1)) ∙ up)
    ];
    names = λ j k live. elim (cases_eq (suc j) i) as (λ _. is_name k.name ≡ true) [
      | inl is ↦ let e : l ≡ k = some_is _ _ (sym s.here ∙ ap h.at (sym is) ∙ live) in ap (λ (k : Link). is_name k.name) (sym e) ∙ name
      | inr other ↦ t.names j k (sym (s.others (suc j) other) ∙ live)
    ];
  }

-- all that `insert` promises
pub record Filled (g h : Links) (i : ℕ) (l : Link) : Type 0 where
  pub nodes : nodes_of h ≡ insert (nodes_of g) (place_of g l.parent ++ l.name ∷ []) l.node
  pub tree : IsTree h
  pub keeps : Keeps (λ (s : Spot). has_place g s.index) (λ s. has_place h s.index) (λ s. place_of g s.index) (λ s. place_of h s.index) (λ p. p)
  pub spot : has_place h i ≡ true
  pub at : place_of h i ≡ place_of g l.parent ++ l.name ∷ []

pub filled : (g h : Links) (i : ℕ) (l : Link) → IsTree g → Sets g h i l → g.at i ≡ None → has_place g l.parent ≡ true → is_name l.name ≡ true
    → is_dir_at (nodes_of g) (place_of g l.parent) ≡ true → get (nodes_of g) (place_of g l.parent ++ l.name ∷ []) ≡ None → Filled g h i l
filled g h i l t s free has name dir new =
    let parent = path_of_place g l.parent has in
    let at = filled_path g h i l _ t s free parent new in
    let kept = fill_keeps g h i l _ t s free parent new in
    record {
      nodes = nodes_filled g h i l _ t s free parent new;
      tree = tree_filled g h i l _ t s free parent new name dir;
      keeps = record {
        stays = λ s had. ap is_some (kept s.index _ (path_of_place g s.index had));
        same = λ s had. ap (λ o. unwrap_or o []) (kept s.index _ (path_of_place g s.index had));
      };
      spot = ap is_some at;
      at = ap (λ o. unwrap_or o []) at;
    }

-- ---- the empty namespace

module _ (g : Links) (l : Link) (size : g.size ≡ 1) (here : g.at 0 ≡ Some l) (others : (j : ℕ) → g.at (suc j) ≡ None) where
  only_root : path_at g 0 ≡ Some []
  unfolding path_at
  only_root = ap (option_map (λ l. [])) here

  no_path : (j : ℕ) → path_at g (suc j) ≡ None
  unfolding path_at
  no_path j = elim (path_at g (suc j)) as (λ o. path_at g (suc j) ≡ o → o ≡ None) [ None ↦ λ _. refl | Some p ↦ λ is. (let k = is_live g (suc j) g.size p is in let e = others j in cc) ] refl

  pub tree_new : IsRoot l.node → l.name ≡ [] → IsTree g
  tree_new root unnamed = record {
    within = λ i k live. within i k live;
    root = only_root;
    top = λ k live. subst (λ (k : Link). IsRoot k.node) (some_is _ _ (sym here ∙ live)) root;
    unnamed = λ k live. ap (λ (k : Link). k.name) (some_is _ _ (sym live ∙ here)) ∙ unnamed;
    reaches = λ i k live. reaches i k live;
    differ = λ i j p a b. differ i j p a b;
    dirs = λ i k d live up. let e = others i in cc;
    names = λ i k live. let e = others i in cc;
  }
    where
      within : (i : ℕ) (k : Link) → g.at i ≡ Some k → i < g.size
      within zero k live = omega (arith, size)
      within (suc i) k live = let e = others i in cc

      reaches : (i : ℕ) (k : Link) → g.at i ≡ Some k → is_some (path_at g i) ≡ true
      reaches zero k live = ap is_some only_root
      reaches (suc i) k live = let e = others i in cc

      differ : (i j : ℕ) (p : Names) → path_at g i ≡ Some p → path_at g j ≡ Some p → i ≡ j
      differ zero zero p a b = refl
      differ zero (suc j) p a b = let e = no_path j in cc
      differ (suc i) j p a b = let e = no_path i in cc

  pub nodes_new : nodes_of g ≡ insert empty [] l.node
  unfolding slots of_slots
  nodes_new =
      ap (λ n. of_slots {R = path_cmp} (map (slot g) (range_with_len 0 n))) size
      ∙ ap (λ o. of_slots {R = path_cmp} (o ∷ [])) (slot_of g 0 [] l only_root here)
