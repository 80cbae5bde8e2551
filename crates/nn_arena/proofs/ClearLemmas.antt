-- What stands below a place is freed leaf after leaf.
use Rattle.std.proofs.Common.{◌≡◌, ◌≢◌, ℕ, zero, suc, ◌+◌, ◌*◌, ◌-◌, ◌<◌, true, false, [], ◌∷◌, ◌++◌, List, length, drop, Some, None, refl, sym, ap, subst, ◌∙◌, arith, is_some, append-nil, length-append}
use Rattle.std.specs.Prelude.{option_map}
use Rattle.nn_base.specs.Paths.{Names, is_under}
use Rattle.nn_base.proofs.PlainLemmas.{some_is, some_of}
use Rattle.nn_tree.specs.Namespace.{node_count}
use Rattle.nn_tree.specs.Links.{Link, Links, up, path_at, nodes_of, place_of, has_place, IsTree}
use Rattle.nn_tree.specs.Plain.{is_later, IsLeast}
use Rattle.nn_tree.proofs.ClimbLemmas.{IsBounded, above, below, root_path, is_live, path_found, path_short}
use Rattle.nn_tree.proofs.LinksLemmas.{path_of_place, under}
use Rattle.nn_tree.proofs.PrefixLemmas.{under_itself, under_push, under_split}
use Rattle.nn_tree.proofs.OrderLemmas.{under_front, under_trans}
use Rattle.nn_arena.specs.declared.place.Entry.{Entry}
use Rattle.nn_arena.specs.declared.place.Place.{Place}
use Rattle.nn_arena.specs.Places.{entry_at, link_of, links_of, AreAlikeBut}
use Rattle.nn_arena.specs.Children.{AreLinked}
use Rattle.nn_arena.specs.Changes.{IsAlikeAt, IsClearedBelow}
use Rattle.nn_arena.proofs.PlaceLemmas.{entry_at_live, live_entry, in_use_spot, alike_link}
use Rattle.nn_arena.proofs.SiblingLemmas.{later_is}
use Rattle.nn_arena.proofs.TakenLemmas.{parent_in_use, parent_other}
use Rattle.nn_arena.proofs.LeafLemmas.{none_below}

-- ---- h has some of the places of g: their paths are the same

module _ (g h : Links) (bounded : IsBounded g) (same : (j : ℕ) (l : Link) → h.at j ≡ Some l → g.at j ≡ Some l) where
  up_was : (n j : ℕ) (r : Names) → up h j n ≡ Some r → up g j n ≡ Some r
  up_was n zero r k = let l = is_live h zero n r k in ap (option_map (λ l. [])) (same zero l.0 l.1) ∙ ap Some (sym (root_path h n r k))
  up_was zero (suc j) r k = cc
  up_was (suc n) (suc j) r k =
      let a = above h j (suc n) r k in
      let m : a.m ≡ n = omega (arith, a.fuel) in
      below g j n a.link a.front (same (suc j) a.link a.live) (up_was n a.link.parent a.front (ap (up h a.link.parent) (sym m) ∙ a.parent)) ∙ ap Some (sym a.is)

  pub path_was : (j : ℕ) (r : Names) → path_at h j ≡ Some r → path_at g j ≡ Some r
  unfolding path_at
  path_was j r k = path_found g bounded h.size j r (up_was h.size j r k)

-- a path is shorter than there are places
pub path_fits : (g : Links) (j : ℕ) (r : Names) → IsTree g → path_at g j ≡ Some r → length r < g.size
unfolding path_at
path_fits g j r t k = path_short g t.within g.size j r k

under_root : (p : Names) → is_under p [] ≡ true → p ≡ []
under_root [] h = refl
under_root (x ∷ p) h = cc

-- ---- how far the clearing of what is below top has come: it goes on at a place at or below top

pub record Clearing (ps cur : List Place) (top at : ℕ) : Type 0 where
  pub size : length cur ≡ length ps
  pub left : (j : ℕ) (e : Entry) → entry_at cur j ≡ Some e → IsAlikeAt ps cur j
  pub kept : IsAlikeAt ps cur top
  pub outside : (j : ℕ) (p : Names) → path_at (links_of ps) j ≡ Some p → is_under (place_of (links_of ps) top) p ≡ false → IsAlikeAt ps cur j
  pub has : has_place (links_of cur) at ≡ true
  pub inside : is_under (place_of (links_of ps) top) (place_of (links_of cur) at) ≡ true

pub clearing_starts : (ps : List Place) (top : ℕ) → has_place (links_of ps) top ≡ true → Clearing ps ps top top
clearing_starts ps top has = record {
  size = refl;
  left = λ j e is. refl;
  kept = refl;
  outside = λ j p path out. refl;
  has = has;
  inside = under_itself (place_of (links_of ps) top);
}

module _ (ps cur : List Place) (top at : ℕ) (tree : IsTree (links_of ps)) (has_top : has_place (links_of ps) top ≡ true) (now : IsTree (links_of cur)) (c : Clearing ps cur top at) where
  abbrev p : Names
  p = place_of (links_of ps) top

  abbrev q : Names
  q = place_of (links_of cur) at

  link_was : (j : ℕ) (l : Link) → (links_of cur).at j ≡ Some l → (links_of ps).at j ≡ Some l
  link_was j l live = let e = entry_at_live cur j l live in sym (alike_link ps cur j (c.left j e.entry e.is)) ∙ live

  was_path : (j : ℕ) (r : Names) → path_at (links_of cur) j ≡ Some r → path_at (links_of ps) j ≡ Some r
  was_path = path_was (links_of ps) (links_of cur) tree.within link_was

  path_top : path_at (links_of ps) top ≡ Some p
  path_top = path_of_place (links_of ps) top has_top

  here : path_at (links_of cur) at ≡ Some q
  here = path_of_place (links_of cur) at c.has

  -- where the path is top's, so is the place
  is_top : q ≡ p → at ≡ top
  is_top same = tree.differ at top p (was_path at q here ∙ ap Some same) path_top

  pub clearing_below_root : at ≢ top → 0 < at
  clearing_below_root other = by at refl
    where
      by : (k : ℕ) → k ≡ at → 0 < k
      by zero is =
          let root : q ≡ [] = some_is _ _ (sym here ∙ ap (path_at (links_of cur)) (sym is) ∙ now.root) in
          absurd (other (is_top (root ∙ sym (under_root p (sym (ap (is_under p) root) ∙ c.inside)))))
      by (suc k) is = omega arith

  -- ---- down to a child

  record Down (child : ℕ) : Type 0 where
    next : Clearing ps cur top child
    longer : length (place_of (links_of cur) child) ≡ length (place_of (links_of cur) at) + 1
    fits : length (place_of (links_of cur) child) < length cur

  module _ (e : Entry) (child : ℕ) (linked : AreLinked cur) (there : entry_at cur at ≡ Some e) (first : e.first ≡ Some child) where
    below_it : is_later (links_of cur) at [] child ≡ true
    below_it = (subst (λ o. IsLeast (links_of cur) at [] (length cur) o) first (linked.first at e there)).0

    down : Down child
    down = by child refl
      where
        by : (k : ℕ) → k ≡ child → Down child
        by zero is = let l = later_is (links_of cur) at [] child below_it in absurd (l.below_root (sym is))
        by (suc k) is =
            let l = later_is (links_of cur) at [] child below_it in
            let u = under (links_of cur) k l.link now (ap (links_of cur).at is ∙ l.live) in
            let front : u.front ≡ q = some_is _ _ (sym u.parent ∙ ap (path_at (links_of cur)) l.parent ∙ here) in
            let path : path_at (links_of cur) child ≡ Some (q ++ l.link.name ∷ []) = ap (path_at (links_of cur)) (sym is) ∙ u.path ∙ ap (λ f. Some (f ++ l.link.name ∷ [])) front in
            let place : place_of (links_of cur) child ≡ q ++ l.link.name ∷ [] = some_is _ _ (sym (path_of_place (links_of cur) child (ap is_some path)) ∙ path) in
            record {
              next = record {
                size = c.size;
                left = c.left;
                kept = c.kept;
                outside = c.outside;
                has = ap is_some path;
                inside = ap (is_under p) place ∙ under_trans p q (q ++ l.link.name ∷ []) c.inside (under_front q (l.link.name ∷ []));
              };
              longer = ap length place ∙ length-append q (l.link.name ∷ []);
              fits = path_fits (links_of cur) child _ now (path_of_place (links_of cur) child (ap is_some path));
            }

    pub clearing_down : Clearing ps cur top child
    clearing_down = down.next

    pub down_shorter : (n : ℕ) → 2 * n + (length cur - length (place_of (links_of cur) child)) < 2 * n + (length cur - length (place_of (links_of cur) at))
    down_shorter n = let d = down in let l = d.longer in let f = d.fits in omega arith

  -- ---- up from a leaf that was freed

  module _ (e : Entry) (nxt : List Place) (other : at ≢ top) (there : entry_at cur at ≡ Some e) (alike : AreAlikeBut cur nxt at) (free : entry_at nxt at ≡ None) (then : IsTree (links_of nxt)) where
    abbrev parent : ℕ
    parent = e.parent

    still : (j : ℕ) (d : Entry) → entry_at nxt j ≡ Some d → (k : Entry) × (entry_at cur j ≡ Some k) × (j ≢ at)
    still j d is =
        let apart : j ≢ at = λ same. (let z : None ≡ Some d = sym free ∙ ap (entry_at nxt) (sym same) ∙ is in cc) in
        let k = entry_at_live cur j (link_of d) (sym (alike_link cur nxt j (alike.each j apart)) ∙ live_entry nxt j d is) in
        (k.entry, k.is, apart)

    left_was : (j : ℕ) (l : Link) → (links_of nxt).at j ≡ Some l → (links_of cur).at j ≡ Some l
    left_was j l live =
        let d = entry_at_live nxt j l live in
        let s = still j d.entry d.is in
        sym (alike_link cur nxt j (alike.each j s.2)) ∙ live

    below_root : 0 < at
    below_root = clearing_below_root other

    apart : parent ≢ at
    apart = parent_other cur at e now below_root there

    parent_left : has_place (links_of nxt) parent ≡ true
    parent_left =
        let d = some_of (entry_at cur parent) (parent_in_use cur at e now below_root there) in
        let k = entry_at_live nxt parent (link_of d.0) (alike_link cur nxt parent (alike.each parent apart) ∙ live_entry cur parent d.0 d.1) in
        in_use_spot nxt parent then (ap is_some k.is)

    place : (x : List ℕ) × (q ≡ place_of (links_of nxt) parent ++ x ∷ [])
    place = by at refl
      where
        by : (k : ℕ) → k ≡ at → (x : List ℕ) × (q ≡ place_of (links_of nxt) parent ++ x ∷ [])
        by zero is = absurd (omega (arith, below_root))
        by (suc k) is =
            let u = under (links_of cur) k (link_of e) now (ap (links_of cur).at is ∙ live_entry cur at e there) in
            let was = path_was (links_of cur) (links_of nxt) now.within left_was parent _ (path_of_place (links_of nxt) parent parent_left) in
            let front : u.front ≡ place_of (links_of nxt) parent = some_is _ _ (sym u.parent ∙ was) in
            let l = link_of e in
            (l.name, some_is _ _ (sym here ∙ ap (path_at (links_of cur)) (sym is) ∙ u.path) ∙ ap (λ f. f ++ l.name ∷ []) front)

    pub clearing_up : Clearing ps nxt top e.parent
    clearing_up = record {
      size = alike.size ∙ c.size;
      left = λ j d is. let s = still j d is in alike.each j s.2 ∙ c.left j s.0 s.1;
      kept = alike.each top (λ same. other (sym same)) ∙ c.kept;
      outside = λ j r path out.
          let away : j ≢ at = λ same. (
          let one : r ≡ q = some_is _ _ (sym path ∙ ap (path_at (links_of ps)) same ∙ was_path at q here) in
          let z : true ≡ false = sym c.inside ∙ ap (is_under p) (sym one) ∙ out in cc
          ) in
          alike.each j away ∙ c.outside j r path out;
      has = parent_left;
      inside =
          let x = place in
          let not_top : p ≢ place_of (links_of nxt) parent ++ x.0 ∷ [] = λ same. other (is_top (x.1 ∙ sym same)) in
          sym (under_push p (place_of (links_of nxt) parent) x.0 not_top) ∙ ap (is_under p) (sym x.1) ∙ c.inside;
    }

    pub up_shorter : node_count (nodes_of (links_of cur)) ≡ suc (node_count (nodes_of (links_of nxt)))
        → 2 * node_count (nodes_of (links_of nxt)) + (length nxt - length (place_of (links_of nxt) e.parent)) < 2 * node_count (nodes_of (links_of cur)) + (length cur - length (place_of (links_of cur) at))
    up_shorter fewer =
        let x = place in
        let l = ap length x.1 ∙ length-append (place_of (links_of nxt) parent) (x.0 ∷ []) in
        let s = alike.size in
        omega arith

  -- ---- at top, which has no children any more

  pub clearing_ends : (e : Entry) → at ≡ top → AreLinked cur → entry_at cur at ≡ Some e → e.first ≡ None → IsClearedBelow ps cur top
  clearing_ends e same linked there leaf = record {
    size = c.size;
    left = c.left;
    kept = c.kept;
    outside = c.outside;
    below = λ j r path inside other. elim (entry_at cur j) as (λ o. entry_at cur j ≡ o → o ≡ None) [
      | None ↦ λ _. refl
      | Some d ↦ λ is. absurd (by j r path other (in_use_spot cur j now (ap is_some is)) (drop (length p) r) (under_split p r inside))
    ] refl;
  }
    where
      top_path : q ≡ p
      top_path = some_is _ _ (sym (was_path at q here) ∙ ap (path_at (links_of ps)) same ∙ path_top)

      by : (j : ℕ) (r : Names) → path_at (links_of ps) j ≡ Some r → j ≢ top → has_place (links_of cur) j ≡ true → (rest : Names) → r ≡ p ++ rest → ⊥
      by j r path other has [] is = other (tree.differ j top p (path ∙ ap Some (is ∙ append-nil p)) path_top)
      by j r path other has (x ∷ rest) is =
          let k = path_of_place (links_of cur) j has in
          let one : place_of (links_of cur) j ≡ r = some_is _ _ (sym (was_path j _ k) ∙ path) in
          none_below cur at e now linked there c.has leaf j x rest (k ∙ ap Some (one ∙ is ∙ ap (λ f. f ++ x ∷ rest) (sym top_path)))
