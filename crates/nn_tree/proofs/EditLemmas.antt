-- To change the node of a place is to change the node at its path.
use Rattle.std.proofs.Common.{◌≡◌, ℕ, zero, suc, true, [], ◌∷◌, ◌++◌, inl, inr, Option, Some, None, refl, sym, ap, ◌∙◌, is_some}
use Rattle.std.specs.Prelude.{option_and_then, option_map}
use Rattle.std.specs.FinMap.{insert}
use Rattle.std.proofs.lemmas.Bool.{cases_eq}
use Rattle.nn_base.specs.Paths.{Names, Bytes, is_name}
use Rattle.nn_base.proofs.PlainLemmas.{some_is}
use Rattle.nn_tree.specs.declared.node.Node.{Node}
use Rattle.nn_tree.specs.Nodes.{is_dir}
use Rattle.nn_tree.specs.Namespace.{Nodes}
use Rattle.nn_tree.specs.Slots.{of_slots}
use Rattle.nn_tree.specs.Links.{Link, Links, up, path_at, slots, nodes_of, IsTree, has_place, place_of}
use Rattle.nn_tree.proofs.LinksLemmas.{paths_total, paths_exact, slot_of, slot_is, differ_slots, node_found, path_of_place}
use Rattle.nn_tree.specs.Changes.{change_at}
use Rattle.nn_tree.proofs.SlotsLemmas.{set_value}
use Rattle.nn_tree.proofs.SetLemmas.{Sets, bounded_set, slots_set}

-- ---- places with the same parents and names have the same paths

abbrev step_of : Link → ℕ × Bytes
step_of l = (l.parent, l.name)

abbrev pub step_at : Links → ℕ → Option (ℕ × Bytes)
step_at g i = option_map step_of (g.at i)

then_map : {A B C : Type 0} (f : B → Option C) (k : A → B) (o : Option A) → option_and_then (λ a. f (k a)) o ≡ option_and_then f (option_map k o)
then_map f k None = refl
then_map f k (Some a) = refl

map_const : {A B C : Type 0} (c : C) (k : A → B) (o : Option A) → option_map (λ a. c) o ≡ option_map (λ b. c) (option_map k o)
map_const c k None = refl
map_const c k (Some a) = refl

pub up_steps : (g h : Links) → ((j : ℕ) → step_at g j ≡ step_at h j) → (n j : ℕ) → up g j n ≡ up h j n
up_steps g h same n zero = map_const [] step_of (g.at 0) ∙ ap (option_map (λ _. [])) (same 0) ∙ sym (map_const [] step_of (h.at 0))
up_steps g h same zero (suc j) = refl
up_steps g h same (suc n) (suc j) =
    then_map (λ (l : ℕ × Bytes). option_map (λ p. p ++ l.1 ∷ []) (up g l.0 n)) step_of (g.at (suc j))
    ∙ (λ i. option_and_then (λ (l : ℕ × Bytes). option_map (λ p. p ++ l.1 ∷ []) (up_steps g h same n l.0 i)) (same (suc j) i))
    ∙ sym (then_map (λ (l : ℕ × Bytes). option_map (λ p. p ++ l.1 ∷ []) (up h l.0 n)) step_of (h.at (suc j)))

-- ---- the node of a place is changed

-- a place in use was in use, with the same parent, name and sort of node
record Was (g : Links) (j : ℕ) (k : Link) : Type 0 where
  link : Link
  live : g.at j ≡ Some link
  parent : k.parent ≡ link.parent
  name : k.name ≡ link.name
  kind : is_dir k.node.kind ≡ is_dir link.node.kind
  id : k.node.id ≡ link.node.id

module _ (g h : Links) (i : ℕ) (o l : Link) (p : Names) (t : IsTree g) (s : Sets g h i l) (live : g.at i ≡ Some o) (path : path_at g i ≡ Some p) (parent : l.parent ≡ o.parent) (name : l.name ≡ o.name) where
  steps : (j : ℕ) → step_at h j ≡ step_at g j
  steps j = elim (cases_eq j i) as (λ _. step_at h j ≡ step_at g j) [
    | inl is ↦ ap (λ j. option_map step_of (h.at j)) is ∙ ap (option_map step_of) s.here ∙ (λ k. Some (parent k, name k))
        ∙ sym (ap (option_map step_of) live) ∙ ap (step_at g) (sym is)
    | inr other ↦ ap (option_map step_of) (s.others j other)
  ]

  pub edited_path : path_at h ≡ path_at g
  unfolding path_at
  edited_path = λ k j. (up_steps h g steps h.size j ∙ ap (up g j) s.size) k

  pub nodes_edited : nodes_of h ≡ insert (nodes_of g) p l.node
  nodes_edited =
      ap of_slots (slots_set g h i l p t.within s (ap (λ f. f i) edited_path ∙ path) (λ j other. ap (λ f. f j) edited_path))
      ∙ set_value paths_total paths_exact (slots g) i p o.node l.node (differ_slots g t) (slot_is g t.within i ∙ slot_of g i p o path live)

  pub tree_edited : is_dir l.node.kind ≡ is_dir o.node.kind → l.node.id ≡ o.node.id → IsTree h
  tree_edited kind id = record {
    within = bounded_set g h i l t.within s;
    root = ap (λ f. f 0) edited_path ∙ t.root;
    top = λ k now. let w = was 0 k now in let r = t.top w.link w.live in (w.id ∙ r.0, w.kind ∙ r.1);
    unnamed = λ k now. let w = was 0 k now in w.name ∙ t.unnamed w.link w.live;
    reaches = λ j k now. ap (λ f. is_some (f j)) edited_path ∙ (let w = was j k now in t.reaches j w.link w.live);
    differ = λ j k q a b. t.differ j k q (sym (ap (λ f. f j) edited_path) ∙ a) (sym (ap (λ f. f k) edited_path) ∙ b);
    dirs = λ j k d now up. let w = was (suc j) k now in let v = was k.parent d up in v.kind ∙ t.dirs j w.link v.link w.live (ap g.at (sym w.parent) ∙ v.live);
    names = λ j k now. let w = was (suc j) k now in ap is_name w.name ∙ t.names j w.link w.live;
  }
    where
      was : (j : ℕ) (k : Link) → h.at j ≡ Some k → Was g j k
      was j k now = elim (cases_eq j i) as (λ _. Was g j k) [
        | inl is ↦
            let e : l ≡ k = some_is _ _ (sym s.here ∙ ap h.at (sym is) ∙ now) in
            record {
              link = o;
              live = ap g.at is ∙ live;
              parent = ap (λ (k : Link). k.parent) (sym e) ∙ parent;
              name = ap (λ (k : Link). k.name) (sym e) ∙ name;
              kind = ap (λ (k : Link). is_dir k.node.kind) (sym e) ∙ kind;
              id = ap (λ (k : Link). k.node.id) (sym e) ∙ id;
            }
        | inr other ↦ record { link = k; live = sym (s.others j other) ∙ now; parent = refl; name = refl; kind = refl; id = refl }
      ]

-- all that a change of one node promises
pub record Edited (g h : Links) (i : ℕ) (f : Node → Node) : Type 0 where
  pub nodes : nodes_of h ≡ change_at (place_of g i) f (nodes_of g)
  pub tree : IsTree h
  pub path : path_at h ≡ path_at g

pub edited : (g h : Links) (i : ℕ) (o l : Link) (f : Node → Node) → IsTree g → Sets g h i l → g.at i ≡ Some o → has_place g i ≡ true → l.parent ≡ o.parent → l.name ≡ o.name → l.node ≡ f o.node
    → is_dir (f o.node).kind ≡ is_dir o.node.kind → (f o.node).id ≡ o.node.id → Edited g h i f
edited g h i o l f t s live has parent name node kind id =
    let p = path_of_place g i has in
    record {
      nodes = nodes_edited g h i o l (place_of g i) t s live p parent name ∙ ap (insert (nodes_of g) (place_of g i)) node
          ∙ sym (ap (λ n. elim n as (λ _. Nodes) [ None ↦ nodes_of g | Some x ↦ insert (nodes_of g) (place_of g i) (f x) ]) (node_found g i (place_of g i) o t p live));
      tree = tree_edited g h i o l (place_of g i) t s live p parent name (ap (λ (n : Node). is_dir n.kind) node ∙ kind) (ap (λ (n : Node). n.id) node ∙ id);
      path = edited_path g h i o l (place_of g i) t s live p parent name;
    }
