-- A node without children: nothing stands below it, and to take it out is to cut its path.
use Rattle.std.proofs.Common.{◌≡◌, ◌≢◌, ℕ, suc, ◌+◌, Bool, true, false, not, cond, [], ◌∷◌, ◌++◌, List, length, drop, Some, None, refl, sym, ap, subst, ◌∙◌, nat_eq, eq-eqb, is_some, append-nil}
use Rattle.std.specs.Ordering.{eq_by_cmp}
use Rattle.std.specs.FinMap.{get, insert, same_map, get-insert, get-retain_keys}
use Rattle.std.proofs.Math.Dec.{eqb-suc-zero}
use Rattle.std.proofs.lemmas.Bool.{eqb-true, eqb-false}
use Rattle.nn_base.specs.Paths.{Names, path_cmp, is_under}
use Rattle.nn_base.proofs.PlainLemmas.{some_is, some_of, is_equal}
use Rattle.nn_tree.specs.declared.node.Node.{Node}
use Rattle.nn_tree.specs.Totals.{total}
use Rattle.nn_tree.specs.Changes.{cut}
use Rattle.nn_tree.specs.Links.{Links, path_at, nodes_of, place_of, has_place, IsTree}
use Rattle.nn_tree.specs.Plain.{IsLeast}
use Rattle.nn_tree.proofs.LinksLemmas.{paths_total, paths_exact, path_of_place, path_live, node_found, node_at, at_place, formed, child_of}
use Rattle.nn_tree.proofs.PrefixLemmas.{under_itself, under_split}
use Rattle.nn_tree.proofs.OrderLemmas.{child_there}
use Rattle.nn_tree.proofs.SlotsLemmas.{itself}
use Rattle.nn_tree.proofs.TotalsLemmas.{total-insert}
use Rattle.nn_tree.proofs.CutLemmas.{Cuts}
use Rattle.nn_arena.specs.declared.place.Entry.{Entry}
use Rattle.nn_arena.specs.declared.place.Place.{Place}
use Rattle.nn_arena.specs.Places.{entry_at, link_of, links_of, AreAlikeBut}
use Rattle.nn_arena.specs.Children.{AreLinked}
use Rattle.nn_arena.proofs.PlaceLemmas.{live_entry, free_entry, alike_link}
use Rattle.nn_arena.proofs.SiblingLemmas.{isnt, later_so, yes_no}
use Rattle.nn_arena.proofs.TakenLemmas.{tree_named}

module _ (ps : List Place) (i : ℕ) (e : Entry) (tree : IsTree (links_of ps)) (linked : AreLinked ps) (there : entry_at ps i ≡ Some e) (has : has_place (links_of ps) i ≡ true) (leaf : e.first ≡ None) where
  abbrev g : Links
  g = links_of ps

  abbrev p : Names
  p = place_of (links_of ps) i

  -- no path is strictly below it
  pub none_below : (j : ℕ) (x : List ℕ) (rest : Names) → path_at g j ≡ Some (p ++ x ∷ rest) → ⊥
  none_below j x rest path =
      let l = path_live g j (p ++ x ∷ rest) path in
      let n = node_found g j (p ++ x ∷ rest) l.0 tree path l.1 in
      let s = some_of (get (nodes_of g) (p ++ x ∷ [])) (child_there (nodes_of g) (formed g tree) p x rest (ap is_some n)) in
      let c = child_of g p x s.0 tree s.1 in
      let parent : c.link.parent ≡ i = tree.differ c.link.parent i p c.parent (path_of_place g i has) in
      let root : suc c.j ≢ 0 = λ z. (let w : true ≡ false = sym (eq-eqb (suc c.j) 0 z) ∙ eqb-suc-zero c.j in cc) in
      let least = subst (λ o. IsLeast g i [] (length ps) o) leaf (linked.first i e there) in
      yes_no _ (later_so g i [] (suc c.j) c.link root c.live parent (tree_named g tree (suc c.j) c.link root c.live)) (least (suc c.j) (tree.within (suc c.j) c.link c.live))

  -- so what is at or below it is the node itself
  only_itself : (j : ℕ) (r : Names) → path_at g j ≡ Some r → is_under p r ≡ true → j ≡ i
  only_itself j r path inside = by (drop (length p) r) (under_split p r inside)
    where
      by : (rest : Names) → r ≡ p ++ rest → j ≡ i
      by [] is = tree.differ j i p (path ∙ ap Some (is ∙ append-nil p)) (path_of_place g i has)
      by (x ∷ rest) is = absurd (none_below j x rest (path ∙ ap Some is))

  -- ---- the map is the node, and what is left without it

  kept_at : (q : Names) → get (cut p (nodes_of g)) q ≡ cond (not (is_under p q)) (get (nodes_of g) q) None
  kept_at q = get-retain_keys (nodes_of g) (λ q. not (is_under p q)) q (λ x tied. ap (λ q. not (is_under p q)) (sym (paths_exact q x tied)))

  none_at : (q : Names) → is_under p q ≡ true → eq_by_cmp path_cmp q p ≡ false → get (nodes_of g) q ≡ None
  none_at q inside other = elim (get (nodes_of g) q) as (λ o. get (nodes_of g) q ≡ o → o ≡ None) [
    | None ↦ λ _. refl
    | Some x ↦ λ is.
        let a = at_place g q x tree is in
        let same : q ≡ p = some_is _ _ (sym a.path ∙ ap (path_at g) (only_itself a.i q a.path inside) ∙ path_of_place g i has) in
        let z : true ≡ false = sym (ap (λ q. eq_by_cmp path_cmp q p) same ∙ itself paths_total p) ∙ other in cc
  ] refl

  put_back : insert (cut p (nodes_of g)) p e.node ≡ nodes_of g
  put_back = same_map paths_total paths_exact _ _ (λ q. get-insert paths_total (cut p (nodes_of g)) p e.node q ∙ by q (eq_by_cmp path_cmp q p) refl)
    where
      left : (q : Names) (b : Bool) → is_under p q ≡ b → eq_by_cmp path_cmp q p ≡ false → cond (not (is_under p q)) (get (nodes_of g) q) None ≡ get (nodes_of g) q
      left q false u other = ap (λ b. cond (not b) (get (nodes_of g) q) None) u
      left q true u other = ap (λ b. cond (not b) (get (nodes_of g) q) None) u ∙ sym (none_at q u other)

      by : (q : Names) (b : Bool) → eq_by_cmp path_cmp q p ≡ b → cond b (Some e.node) (get (cut p (nodes_of g)) q) ≡ get (nodes_of g) q
      by q true is = sym (ap (get (nodes_of g)) (paths_exact q p (is_equal _ is)) ∙ node_at g i (link_of e) tree has (live_entry ps i e there))
      by q false is = kept_at q ∙ left q (is_under p q) refl is

  -- a sum over the map loses what the node adds to it
  pub total_leaf : (w : Names → Node → ℕ) → total w (nodes_of (links_of ps)) ≡ w (place_of (links_of ps) i) e.node + total w (cut (place_of (links_of ps) i) (nodes_of (links_of ps)))
  total_leaf w =
      ap (total w) (sym put_back)
      ∙ total-insert path_cmp paths_total w (cut p (nodes_of g)) p e.node (kept_at p ∙ ap (λ b. cond (not b) (get (nodes_of g) p) None) (under_itself p))

  -- ---- its place is freed

  module _ (qs : List Place) (alike : AreAlikeBut ps qs i) (free : entry_at qs i ≡ None) where
    outside : (j : ℕ) (r : Names) → path_at g j ≡ Some r → j ≢ i → is_under p r ≡ false
    outside j r path other = isnt _ (λ inside. other (only_itself j r path inside))

    pub leaf_cuts : Cuts (links_of ps) (links_of qs) (place_of (links_of ps) i) (λ j. nat_eq j i)
    leaf_cuts = record {
      size = alike.size;
      each = λ j. elim (nat_eq j i) as (λ b. nat_eq j i ≡ b → (links_of qs).at j ≡ cond b None (g.at j)) [
        | true ↦ λ is. ap (links_of qs).at (eqb-true j i is) ∙ free_entry qs i free
        | false ↦ λ is. alike_link ps qs j (alike.each j (eqb-false j i is))
      ] refl;
      told = λ j r path. elim (nat_eq j i) as (λ b. nat_eq j i ≡ b → b ≡ is_under p r) [
        | true ↦ λ is.
            let same : r ≡ p = some_is _ _ (sym path ∙ ap (path_at g) (eqb-true j i is) ∙ path_of_place g i has) in
            sym (ap (is_under p) same ∙ under_itself p)
        | false ↦ λ is. sym (outside j r path (eqb-false j i is))
      ] refl;
    }
