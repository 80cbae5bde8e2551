-- What the places of a tree and its map have in common.
use Rattle.std.proofs.Common.{◌≡◌, ℕ, zero, suc, ◌<◌, ◌≤◌, true, false, [], ◌∷◌, ◌++◌, inl, inr, length, Some, None, refl, sym, ap, subst, ◌∙◌, arith, length-append, unwrap_or}
use Rattle.std.specs.Prelude.{option_and_then, option_map}
use Rattle.std.specs.Option.{option_map_or}
use Rattle.std.specs.Cmp.{IsTotalOrder, nat_cmp_total}
use Rattle.std.specs.Cmp.Lexicographic.{lists_total}
use Rattle.std.specs.FinMap.{get, slice_cmp-IsAntisymmetric, nat_cmp-IsAntisymmetric, IsAntisymmetric}
use Rattle.std.proofs.lemmas.Bool.{cases_lt}
use Rattle.std.proofs.lemmas.List.{get_or_past, same_from_push}
use Rattle.std.proofs.lemmas.List.FromFn.{get_or-map-range_with_len, length-map-range_with_len}
use Rattle.nn_base.specs.Paths.{Names, Bytes, path_cmp, name_cmp, is_name}
use Rattle.nn_base.proofs.PlainLemmas.{some_is, some_of}
use Rattle.nn_tree.specs.declared.node.Node.{Node}
use Rattle.nn_tree.specs.Nodes.{is_dir}
use Rattle.nn_tree.specs.Namespace.{IsNamespace, is_dir_at}
use Rattle.nn_tree.specs.Slots.{slot_at, Differ}
use Rattle.nn_tree.specs.Links.{Link, Links, up, path_at, slot, slots, nodes_of, IsTree, has_place, place_of}
use Rattle.nn_tree.proofs.SlotsLemmas.{hit, found}
use Rattle.nn_tree.proofs.ClimbLemmas.{IsBounded, above, is_live, path_found}

pub names_total : IsTotalOrder name_cmp
names_total = lists_total nat_cmp_total

pub paths_total : IsTotalOrder path_cmp
paths_total = lists_total names_total

pub names_exact : IsAntisymmetric name_cmp
names_exact = slice_cmp-IsAntisymmetric nat_cmp-IsAntisymmetric

pub paths_exact : IsAntisymmetric path_cmp
paths_exact = slice_cmp-IsAntisymmetric names_exact

-- ---- slots

pub slot_empty : (g : Links) (i : ℕ) → g.at i ≡ None → slot g i ≡ None
unfolding slot
slot_empty g i free = ap (option_and_then (λ l. option_map (λ p. (p, l.node)) (path_at g i))) free

pub slot_of : (g : Links) (i : ℕ) (p : Names) (l : Link) → path_at g i ≡ Some p → g.at i ≡ Some l → slot g i ≡ Some (p, l.node)
unfolding slot
slot_of g i p l path live =
    ap (option_and_then (λ l. option_map (λ p. (p, l.node)) (path_at g i))) live ∙ ap (option_map (λ p. (p, l.node))) path

pub slot_past : (g : Links) → IsBounded g → (i : ℕ) → g.size ≤ i → g.at i ≡ None
slot_past g within i le = elim (g.at i) as (λ o. g.at i ≡ o → o ≡ None) [
  | None ↦ λ _. refl
  | Some l ↦ λ live. let w = within i l live in absurd (omega arith)
] refl

pub slot_is : (g : Links) → IsBounded g → (i : ℕ) → slot_at (slots g) i ≡ slot g i
unfolding slots
slot_is g within i = elim (cases_lt i g.size) as (λ _. slot_at (slots g) i ≡ slot g i) [
  | inl lt ↦ get_or-map-range_with_len (slot g) 0 g.size i i None lt (omega arith)
  | inr le ↦ get_or_past (slots g) i None (let l = length-map-range_with_len (slot g) 0 g.size in omega arith)
      ∙ sym (slot_empty g i (slot_past g within i le))
]

pub length_slots : (g : Links) → length (slots g) ≡ g.size
unfolding slots
length_slots g = length-map-range_with_len (slot g) 0 g.size

record InSlot (g : Links) (i : ℕ) (p : Names) (x : Node) : Type 0 where
  link : Link
  live : g.at i ≡ Some link
  path : path_at g i ≡ Some p
  node : link.node ≡ x

in_slot : (g : Links) (i : ℕ) (p : Names) (x : Node) → slot g i ≡ Some (p, x) → InSlot g i p x
unfolding slot
in_slot g i p x h =
    elim (g.at i) as (λ o. g.at i ≡ o → option_and_then {U = Names × Node} (λ l. option_map (λ p. (p, l.node)) (path_at g i)) o ≡ Some (p, x) → InSlot g i p x) [
      | None ↦ λ live is. cc
      | Some l ↦ λ live is. elim (path_at g i) as (λ o. path_at g i ≡ o → option_map {U = Names × Node} (λ p. (p, l.node)) o ≡ Some (p, x) → InSlot g i p x) [
        | None ↦ λ path is. cc
        | Some q ↦ λ path is. let t : ◌≡◌ {A = Names × Node} (q, l.node) (p, x) = some_is _ _ is in record { link = l; live = live; path = path ∙ ap (λ t. Some t.0) t; node = ap (λ t. t.1) t }
      ] refl is
    ] refl h

pub differ_slots : (g : Links) → IsTree g → Differ (slots g)
differ_slots g t i j a b p q k =
    let x = in_slot g i a.0 a.1 (sym (slot_is g t.within i) ∙ p) in
    let y = in_slot g j b.0 b.1 (sym (slot_is g t.within j) ∙ q) in
    t.differ i j a.0 x.path (y.path ∙ ap Some (sym k))

-- ---- places and nodes

-- the node at the path of a place is the one that stands there
pub node_found : (g : Links) (i : ℕ) (p : Names) (l : Link) → IsTree g → path_at g i ≡ Some p → g.at i ≡ Some l → get (nodes_of g) p ≡ Some l.node
node_found g i p l t path live = hit paths_total paths_exact (slots g) i p l.node (differ_slots g t) (slot_is g t.within i ∙ slot_of g i p l path live)

-- what the map has, a place has
pub record AtPlace (g : Links) (p : Names) (x : Node) : Type 0 where
  pub i : ℕ
  pub link : Link
  pub live : g.at i ≡ Some link
  pub path : path_at g i ≡ Some p
  pub node : link.node ≡ x

pub at_place : (g : Links) (p : Names) (x : Node) → IsTree g → get (nodes_of g) p ≡ Some x → AtPlace g p x
at_place g p x t h =
    let f = found paths_total paths_exact (slots g) p x h in
    let s = in_slot g f.0 p x (sym (slot_is g t.within f.0) ∙ f.1) in
    record { i = f.0; link = s.link; live = s.live; path = s.path; node = s.node }

pub path_live : (g : Links) (i : ℕ) (p : Names) → path_at g i ≡ Some p → (l : Link) × (g.at i ≡ Some l)
unfolding path_at
path_live g i p h = is_live g i g.size p h

pub path_of_place : (g : Links) (i : ℕ) → has_place g i ≡ true → path_at g i ≡ Some (place_of g i)
path_of_place g i h = let s = some_of (path_at g i) h in s.1 ∙ ap (λ o. Some (unwrap_or o [])) (sym s.1)

pub link_there : (g : Links) (i : ℕ) → has_place g i ≡ true → (l : Link) × (g.at i ≡ Some l)
link_there g i h = path_live g i (place_of g i) (path_of_place g i h)

pub place_within : (g : Links) (i : ℕ) → IsTree g → has_place g i ≡ true → i < g.size
place_within g i t h = let l = link_there g i h in t.within i l.0 l.1

-- the node that a spot names
pub node_at : (g : Links) (i : ℕ) (l : Link) → IsTree g → has_place g i ≡ true → g.at i ≡ Some l → get (nodes_of g) (place_of g i) ≡ Some l.node
node_at g i l t h live = node_found g i (place_of g i) l t (path_of_place g i h) live

-- ---- parents

-- the parent of a place in use has a path, and the path of the place ends in its name
pub record Under (g : Links) (i : ℕ) (l : Link) : Type 0 where
  pub front : Names
  pub parent : path_at g l.parent ≡ Some front
  pub path : path_at g i ≡ Some (front ++ l.name ∷ [])

pub under_path : (g : Links) (i : ℕ) (l : Link) (p : Names) → IsTree g → g.at (suc i) ≡ Some l → path_at g (suc i) ≡ Some p → Under g (suc i) l
unfolding path_at
under_path g i l p t live path =
    let a = above g i g.size p path in
    let same : a.link ≡ l = some_is _ _ (sym a.live ∙ live) in
    record {
      front = a.front;
      parent = ap (λ (l : Link). up g l.parent g.size) (sym same) ∙ path_found g t.within a.m a.link.parent a.front a.parent;
      path = path ∙ ap Some (a.is ∙ ap (λ (l : Link). a.front ++ l.name ∷ []) same);
    }

pub under : (g : Links) (i : ℕ) (l : Link) → IsTree g → g.at (suc i) ≡ Some l → Under g (suc i) l
under g i l t live = let s = some_of (path_at g (suc i)) (t.reaches (suc i) l live) in under_path g i l s.0 t live s.1

pub not_empty : (p : Names) (x : Bytes) → [] ≡ p ++ x ∷ [] → ⊥
not_empty p x h = let l = ap length h ∙ length-append p (x ∷ []) in omega arith

-- ---- a tree means a well-formed namespace

pub at_root : (g : Links) → IsTree g → (l : Link) × (g.at 0 ≡ Some l)
at_root g t = path_live g 0 [] t.root

pub dir_at : (g : Links) (i : ℕ) (p : Names) (l : Link) → IsTree g → path_at g i ≡ Some p → g.at i ≡ Some l → is_dir l.node.kind ≡ true → is_dir_at (nodes_of g) p ≡ true
dir_at g i p l t path live dir = ap (λ o. option_map_or (λ node. is_dir node.kind) o false) (node_found g i p l t path live) ∙ dir

pub record Child (g : Links) (q : Names) (x : Bytes) : Type 0 where
  pub j : ℕ
  pub link : Link
  pub live : g.at (suc j) ≡ Some link
  pub parent : path_at g link.parent ≡ Some q
  pub name : link.name ≡ x

-- a path that isn't the root's belongs to the child of a place
pub child_of : (g : Links) (q : Names) (x : Bytes) (node : Node) → IsTree g → get (nodes_of g) (q ++ x ∷ []) ≡ Some node → Child g q x
child_of g q x node t h = let a = at_place g (q ++ x ∷ []) node t h in by a.i a.link a.live a.path
  where
    by : (i : ℕ) (l : Link) → g.at i ≡ Some l → path_at g i ≡ Some (q ++ x ∷ []) → Child g q x
    by zero l live path = absurd (not_empty q x (some_is _ _ (sym t.root ∙ path)))
    by (suc j) l live path =
        let u = under_path g j l _ t live path in
        let s = same_from_push u.front q l.name x (some_is _ _ (sym u.path ∙ path)) in
        record { j = j; link = l; live = live; parent = u.parent ∙ ap Some s.0; name = s.1 }

pub formed : (g : Links) → IsTree g → IsNamespace (nodes_of g)
formed g t = record {
  top = (at_root g t).0.node;
  there = node_found g 0 [] (at_root g t).0 t t.root (at_root g t).1;
  root = t.top (at_root g t).0 (at_root g t).1;
  parents = λ q x h.
      let s = some_of (get (nodes_of g) (q ++ x ∷ [])) h in
      let c = child_of g q x s.0 t s.1 in
      let d = path_live g c.link.parent q c.parent in
      dir_at g c.link.parent q d.0 t c.parent d.1 (t.dirs c.j c.link d.0 c.live d.1);
  names = λ q x h.
      let s = some_of (get (nodes_of g) (q ++ x ∷ [])) h in
      let c = child_of g q x s.0 t s.1 in
      subst (λ (x : Bytes). is_name x ≡ true) c.name (t.names c.j c.link c.live);
}
