-- To link a place under another parent is to move its path, with all below it.
use Rattle.std.proofs.Common.{◌≡◌, ◌≢◌, ℕ, zero, suc, Bool, true, false, List, [], ◌∷◌, ◌++◌, inl, inr, map, length, take, Option, Some, None, refl, sym, ap, subst, ◌∙◌, arith, is_some, unwrap_or, length-append}
use Rattle.std.specs.Prelude.{option_and_then, option_map}
use Rattle.std.specs.Option.{option_map_or}
use Rattle.std.specs.FinMap.{get}
use Rattle.std.proofs.lemmas.Bool.{cases_eq}
use Rattle.std.proofs.lemmas.List.{ext_get_or, length-map}
use Rattle.nn_base.specs.Paths.{Names, is_under, is_name}
use Rattle.nn_base.proofs.PlainLemmas.{some_is, some_of}
use Rattle.nn_tree.specs.declared.node.Node.{Node}
use Rattle.nn_tree.specs.declared.spot.Spot.{Spot}
use Rattle.nn_tree.specs.Nodes.{is_dir}
use Rattle.nn_tree.specs.Namespace.{IsRoot, is_dir_at}
use Rattle.nn_tree.specs.Slots.{of_slots}
use Rattle.nn_tree.specs.Spots.{Keeps}
use Rattle.nn_tree.specs.Links.{Link, Links, up, path_at, slot, slots, nodes_of, IsTree, has_place, place_of}
use Rattle.nn_tree.proofs.ClimbLemmas.{IsBounded, above, below, root_path, is_live, path_found}
use Rattle.nn_tree.proofs.LinksLemmas.{paths_total, paths_exact, slot_of, slot_is, length_slots, differ_slots, node_found, path_live, path_of_place}
use Rattle.nn_tree.specs.Slots.{rekey_slot, Differ}
use Rattle.nn_tree.specs.Changes.{moved, move}
use Rattle.nn_tree.proofs.RekeyLemmas.{rekeyed, slot_map}
use Rattle.nn_tree.proofs.PrefixLemmas.{under_itself, under_none, under_push, under_split, cancel_front, take_front, moved_push, moved_self, moved_out, moved_in}
use Rattle.nn_tree.proofs.AbsentLemmas.{absent_below}
use Rattle.nn_tree.proofs.SetLemmas.{Sets, bounded_set}

-- a place in use was in use, with the same node
record Had (g : Links) (j : ℕ) (k : Link) : Type 0 where
  link : Link
  live : g.at j ≡ Some link
  node : k.node ≡ link.node

-- s moves to d, which is q with the new name
module _ (g h : Links) (i : ℕ) (o l : Link) (s q : Names) (t : IsTree g) (w : Sets g h i l) (live : g.at i ≡ Some o) (path : path_at g i ≡ Some s) (below_root : s ≢ [])
    (node : l.node ≡ o.node) (parent : path_at g l.parent ≡ Some q) (outside : is_under s q ≡ false) (new : get (nodes_of g) (q ++ l.name ∷ []) ≡ None) where
  abbrev d : Names
  d = q ++ l.name ∷ []

  abbrev f : Names → Names
  f = moved s (q ++ l.name ∷ [])

  bounded : IsBounded h
  bounded = bounded_set g h i l t.within w

  not_root : i ≢ 0
  not_root is = let e : Some s ≡ Some [] = sym path ∙ ap (path_at g) is ∙ t.root in below_root cc

  path_is : (j n : ℕ) (r : Names) → j ≡ i → up g j n ≡ Some r → r ≡ s
  path_is j n r is k = some_is _ _ (sym (path_found g t.within n j r k) ∙ ap (path_at g) is ∙ path)

  root_moved : f [] ≡ []
  root_moved = moved_out s d [] (under_none s below_root)

  -- what isn't below keeps its path
  out_kept : (n j : ℕ) (r : Names) → up g j n ≡ Some r → is_under s r ≡ false → up h j n ≡ Some r
  out_kept n zero r k out = ap (option_map (λ l. [])) (w.others 0 (λ e. not_root (sym e))) ∙ k
  out_kept zero (suc j) r k out = cc
  out_kept (suc n) (suc j) r k out =
      let a = above g j (suc n) r k in
      let m : a.m ≡ n = omega (arith, a.fuel) in
      let self : r ≡ s → ⊥ = λ e. let x = under_itself s in let y = ap (is_under s) e in cc in
      let other : suc j ≢ i = λ e. self (path_is (suc j) (suc n) r e k) in
      let front : is_under s a.front ≡ false = sym (under_push s a.front a.link.name (λ e. self (a.is ∙ sym e))) ∙ ap (is_under s) (sym a.is) ∙ out in
      below h j n a.link a.front (w.others (suc j) other ∙ a.live) (out_kept n a.link.parent a.front (ap (up g a.link.parent) (sym m) ∙ a.parent) front) ∙ ap Some (sym a.is)

  here_moved : (j : ℕ) → j ≡ i → path_at h j ≡ Some d
  unfolding path_at
  here_moved zero is = absurd (not_root (sym is))
  here_moved (suc j) is =
      path_found h bounded (suc g.size) (suc j) d
      (below h j g.size l q (ap h.at is ∙ w.here) (out_kept g.size l.parent q parent outside))

  all_moved : (n j : ℕ) (r : Names) → up g j n ≡ Some r → path_at h j ≡ Some (f r)
  unfolding path_at
  all_moved n zero r k =
      path_found h bounded n zero (f r) (ap (option_map (λ l. [])) (w.others 0 (λ e. not_root (sym e))) ∙ k ∙ ap Some (root_path g n r k ∙ sym root_moved ∙ ap f (sym (root_path g n r k))))
  all_moved zero (suc j) r k = cc
  all_moved (suc n) (suc j) r k =
      let a = above g j (suc n) r k in
      let m : a.m ≡ n = omega (arith, a.fuel) in
      elim (cases_eq (suc j) i) as (λ _. path_at h (suc j) ≡ Some (f r)) [
        | inl is ↦ here_moved (suc j) is ∙ ap Some (sym (ap f (path_is (suc j) (suc n) r is k) ∙ moved_self s d))
        | inr other ↦
            let u = all_moved n a.link.parent a.front (ap (up g a.link.parent) (sym m) ∙ a.parent) in
            let self : s ≢ a.front ++ a.link.name ∷ [] = λ e. other (t.differ (suc j) i s (path_found g t.within (suc n) (suc j) r k ∙ ap Some (a.is ∙ sym e)) path) in
            path_found h bounded (suc h.size) (suc j) (f r)
            (below h j h.size a.link (f a.front) (w.others (suc j) other ∙ a.live) u ∙ ap Some (sym (ap f a.is ∙ moved_push s d a.front a.link.name self)))
      ]

  had : (j : ℕ) (k : Link) → h.at j ≡ Some k → Had g j k
  had j k now = elim (cases_eq j i) as (λ _. Had g j k) [
    | inl is ↦ record { link = o; live = ap g.at is ∙ live; node = ap (λ (k : Link). k.node) (some_is _ _ (sym now ∙ ap h.at is ∙ w.here)) ∙ node }
    | inr other ↦ record { link = k; live = sym (w.others j other) ∙ now; node = refl }
  ]

  pub path_moved : (j : ℕ) → path_at h j ≡ option_map f (path_at g j)
  unfolding path_at
  path_moved j = elim (path_at g j) as (λ o. path_at g j ≡ o → path_at h j ≡ option_map f o) [
    | Some r ↦ λ k. all_moved g.size j r k
    | None ↦ λ k. elim (path_at h j) as (λ o. path_at h j ≡ o → o ≡ None) [
      | None ↦ λ _. refl
      | Some r ↦ λ is.
          let x = is_live h j h.size r is in
          let y = had j x.0 x.1 in
          let z = t.reaches j y.link y.live in let e = ap is_some k in cc
    ] refl
  ] refl

  -- ---- the map

  rekey_of : (k : Names → Names) (l : Option Link) (p : Option Names) → option_and_then {U = Names × Node} (λ l. option_map (λ p. (p, l.node)) (option_map k p)) l ≡ rekey_slot k (option_and_then {U = Names × Node} (λ l. option_map (λ p. (p, l.node)) p) l)
  rekey_of k None p = refl
  rekey_of k (Some l) None = refl
  rekey_of k (Some l) (Some p) = refl

  slot_moved : (j : ℕ) → slot h j ≡ rekey_slot f (slot g j)
  unfolding slot
  slot_moved j = elim (cases_eq j i) as (λ _. slot h j ≡ rekey_slot f (slot g j)) [
    | inl is ↦
        slot_of h j d l (here_moved j is) (ap h.at is ∙ w.here)
        ∙ (let z : d ≡ f s = sym (moved_self s d) in λ k. Some (z k, node k))
        ∙ sym (ap (rekey_slot f) (slot_of g j s o (ap (path_at g) is ∙ path) (ap g.at is ∙ live)))
    | inr other ↦
        ap (option_and_then (λ l. option_map (λ p. (p, l.node)) (path_at h j))) (w.others j other)
        ∙ ap (λ o. option_and_then (λ l. option_map (λ p. (p, l.node)) o) (g.at j)) (path_moved j)
        ∙ rekey_of f (g.at j) (path_at g j)
  ]

  pub slots_moved : slots h ≡ map (rekey_slot f) (slots g)
  slots_moved = ext_get_or None _ _ (length_slots h ∙ w.size ∙ sym (length-map (slots g) (rekey_slot f) ∙ length_slots g))
      (λ j lt. slot_is h bounded j ∙ slot_moved j ∙ ap (rekey_slot f) (sym (slot_is g t.within j)) ∙ sym (slot_map f (slots g) j))

  -- ---- it stays a tree

  present : (j : ℕ) (r : Names) → path_at g j ≡ Some r → get (nodes_of g) r ≡ None → ⊥
  present j r k none = let x = path_live g j r k in let n = node_found g j r x.0 t k x.1 in cc

  clash : (j : ℕ) (r a : Names) → path_at g j ≡ Some r → r ≡ d ++ a → ⊥
  clash j r a k is =
      present j r k (absent_below g (length d) r t (let x = ap length is ∙ length-append d a in omega arith)
      (ap (λ p. get (nodes_of g) (take (length d) p)) is ∙ ap (get (nodes_of g)) (take_front d a) ∙ new))

  inject : (j k : ℕ) (r r' : Names) → path_at g j ≡ Some r → path_at g k ≡ Some r' → f r ≡ f r' → r ≡ r'
  inject j k r r' a b same = by (is_under s r) (is_under s r') refl refl
    where
      by : (x y : Bool) → is_under s r ≡ x → is_under s r' ≡ y → r ≡ r'
      by true true x y = under_split s r x ∙ ap (λ z. s ++ z) (cancel_front d _ _ (sym (moved_in s d r x) ∙ same ∙ moved_in s d r' y)) ∙ sym (under_split s r' y)
      by false false x y = sym (moved_out s d r x) ∙ same ∙ moved_out s d r' y
      by true false x y = absurd (clash k r' _ b (sym (moved_out s d r' y) ∙ sym same ∙ moved_in s d r x))
      by false true x y = absurd (clash j r _ a (sym (moved_out s d r x) ∙ same ∙ moved_in s d r' y))

  was_path : (j : ℕ) (p : Names) → path_at h j ≡ Some p → (r : Names) × (path_at g j ≡ Some r) × (f r ≡ p)
  was_path j p k = elim (path_at g j) as (λ o. path_at g j ≡ o → option_map f o ≡ Some p → (r : Names) × (path_at g j ≡ Some r) × (f r ≡ p)) [
    | None ↦ λ _ e. cc
    | Some r ↦ λ is e. (r, is, cc)
  ] refl (sym (path_moved j) ∙ k)

  pub tree_moved : is_name l.name ≡ true → is_dir_at (nodes_of g) q ≡ true → IsTree h
  tree_moved name dir = record {
    within = bounded;
    root = path_moved 0 ∙ ap (option_map f) t.root ∙ ap Some root_moved;
    top = λ k now. let x = had 0 k now in subst IsRoot (sym x.node) (t.top x.link x.live);
    unnamed = λ k now. t.unnamed k (sym (w.others 0 (λ e. not_root (sym e))) ∙ now);
    reaches = λ j k now. let x = had j k now in let p = some_of (path_at g j) (t.reaches j x.link x.live) in ap is_some (path_moved j ∙ ap (option_map f) p.1);
    differ = λ j k p a b.
        let x = was_path j p a in let y = was_path k p b in
        t.differ j k x.0 x.1 (y.1 ∙ ap Some (sym (inject j k x.0 y.0 x.1 y.1 (x.2 ∙ sym y.2))));
    dirs = λ j k e now up.
        let v = had k.parent e up in
        ap (λ (n : Node). is_dir n.kind) v.node ∙ elim (cases_eq (suc j) i) as (λ _. is_dir v.link.node.kind ≡ true) [
          | inl is ↦
              let same : l ≡ k = some_is _ _ (sym w.here ∙ ap h.at (sym is) ∙ now) in
              let at : g.at l.parent ≡ Some v.link = ap (λ (l : Link). g.at l.parent) same ∙ v.live in
              sym (ap (λ o. option_map_or (λ node. is_dir node.kind) o false) (node_found g l.parent q v.link t parent at)) ∙ dir
          | inr other ↦ t.dirs j k v.link (sym (w.others (suc j) other) ∙ now) v.live
        ];
    names = λ j k now. elim (cases_eq (suc j) i) as (λ _. is_name k.name ≡ true) [
      | inl is ↦ let same : l ≡ k = some_is _ _ (sym w.here ∙ ap h.at (sym is) ∙ now) in ap (λ (k : Link). is_name k.name) (sym same) ∙ name
      | inr other ↦ t.names j k (sym (w.others (suc j) other) ∙ now)
    ];
  }

  pub nodes_moved : is_name l.name ≡ true → is_dir_at (nodes_of g) q ≡ true → nodes_of h ≡ move s (q ++ l.name ∷ []) (nodes_of g)
  nodes_moved name dir =
      ap of_slots slots_moved
      ∙ rekeyed paths_total paths_exact f (slots g) (differ_slots g t) (subst (λ (z : List (Option (Names × Node))). Differ z) slots_moved (differ_slots h (tree_moved name dir)))

-- all that `relink` promises
pub record Moved (g h : Links) (i : ℕ) (l : Link) : Type 0 where
  pub nodes : nodes_of h ≡ move (place_of g i) (place_of g l.parent ++ l.name ∷ []) (nodes_of g)
  pub slots : slots h ≡ map (rekey_slot (moved (place_of g i) (place_of g l.parent ++ l.name ∷ []))) (slots g)
  pub tree : IsTree h
  pub keeps : Keeps (λ (s : Spot). has_place g s.index) (λ s. has_place h s.index) (λ s. place_of g s.index) (λ s. place_of h s.index) (moved (place_of g i) (place_of g l.parent ++ l.name ∷ []))

pub relinked : (g h : Links) (i : ℕ) (o l : Link) → IsTree g → Sets g h i l → g.at i ≡ Some o → has_place g i ≡ true → place_of g i ≢ [] → l.node ≡ o.node → has_place g l.parent ≡ true → is_name l.name ≡ true
    → is_dir_at (nodes_of g) (place_of g l.parent) ≡ true → is_under (place_of g i) (place_of g l.parent) ≡ false → get (nodes_of g) (place_of g l.parent ++ l.name ∷ []) ≡ None → Moved g h i l
relinked g h i o l t w live has below_root node to name dir outside new =
    let path = path_of_place g i has in
    let parent = path_of_place g l.parent to in
    let kept = path_moved g h i o l (place_of g i) (place_of g l.parent) t w live path below_root node parent outside new in
    record {
      nodes = nodes_moved g h i o l (place_of g i) (place_of g l.parent) t w live path below_root node parent outside new name dir;
      slots = slots_moved g h i o l (place_of g i) (place_of g l.parent) t w live path below_root node parent outside new;
      tree = tree_moved g h i o l (place_of g i) (place_of g l.parent) t w live path below_root node parent outside new name dir;
      keeps = record {
        stays = λ s had. ap is_some (kept s.index ∙ ap (option_map (moved (place_of g i) (place_of g l.parent ++ l.name ∷ []))) (path_of_place g s.index had));
        same = λ s had. ap (λ o. unwrap_or o []) (kept s.index ∙ ap (option_map (moved (place_of g i) (place_of g l.parent ++ l.name ∷ []))) (path_of_place g s.index had));
      };
    }
