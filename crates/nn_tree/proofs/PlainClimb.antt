-- To climb from one entry to another is to have its path as a prefix; and what each entry adds to a usage.
use Rattle.std.proofs.Common.{◌≡◌, ◌≢◌, ℕ, zero, suc, ◌+◌, ◌-◌, ◌<◌, ◌≤◌, Bool, true, false, cond, List, [], ◌∷◌, ◌++◌, map, length, Some, refl, sym, ap, ◌∙◌, arith}
use Rattle.std.specs.Option.{option_map_or}
use Rattle.std.proofs.Math.ListN.{get_or}
use Rattle.nn_base.specs.Paths.{Names, is_under}
use Rattle.nn_base.specs.Limits.{most_blocks}
use Rattle.nn_base.proofs.PlainLemmas.{some_is, some_of}
use Rattle.nn_tree.specs.declared.node.Node.{Node}
use Rattle.nn_tree.specs.Links.{Link, Links, up, path_at, slot, slots, nodes_of, IsTree, has_place, place_of}
use Rattle.nn_tree.proofs.ClimbLemmas.{above, root_path, path_found}
use Rattle.nn_tree.proofs.LinksLemmas.{paths_total, paths_exact, slot_empty, slot_of, differ_slots, node_found, path_of_place}
use Rattle.std.proofs.Common.{nat_eq, add-zero}
use Rattle.std.specs.Prelude.{slice_get, sum_by}
use Rattle.std.specs.List.{range_with_len}
use Rattle.std.proofs.lemmas.Bool.{eqb-true, eqb-false}
use Rattle.std.proofs.Math.Dec.{eqb-suc-zero}
use Rattle.std.proofs.lemmas.Option.{slice_get_read}
use Rattle.std.proofs.lemmas.List.FromFn.{sum_by-map-range_with_len_more}
use Rattle.nn_tree.specs.declared.entry.Entry.{Entry}
use Rattle.nn_tree.specs.Nodes.{space_of, blocks_of}
use Rattle.nn_tree.specs.Namespace.{name_share, space_share}
use Rattle.nn_tree.specs.Limits.{IsKind, IsWithinLimits}
use Rattle.nn_tree.specs.Totals.{total}
use Rattle.nn_tree.specs.Slots.{slot_share}
use Rattle.nn_tree.specs.Plain.{links_of, climbs_to}
use Rattle.nn_tree.proofs.SlotsLemmas.{total-of_slots}
use Rattle.nn_tree.proofs.PrefixLemmas.{under_itself, under_none, under_push}
use Rattle.nn_tree.proofs.PlainLemmas.{held, live_entry, free_entry, entry_at}

at_zero : (es : List Entry) (a n : ℕ) → climbs_to es a n 0 ≡ nat_eq 0 a
at_zero es a zero = refl
at_zero es a (suc n) = elim (nat_eq 0 a) as (λ b. cond b true false ≡ b) [ true ↦ refl | false ↦ refl ]

here : (es : List Entry) (a n i : ℕ) → nat_eq i a ≡ true → climbs_to es a n i ≡ true
here es a zero i is = is
here es a (suc n) i is = ap (λ b. cond b true (cond (nat_eq i 0) false (option_map_or (λ e. climbs_to es a n e.parent) (slice_get es i) false))) is

there : (es : List Entry) (a n i : ℕ) (e : Entry) → nat_eq (suc i) a ≡ false → slice_get es (suc i) ≡ Some e → climbs_to es a (suc n) (suc i) ≡ climbs_to es a n e.parent
there es a n i e is read =
    ap (λ b. cond b true (cond (nat_eq (suc i) 0) false (option_map_or (λ e. climbs_to es a n e.parent) (slice_get es (suc i)) false))) is
    ∙ ap (λ b. cond b false (option_map_or (λ e. climbs_to es a n e.parent) (slice_get es (suc i)) false)) (eqb-suc-zero i)
    ∙ ap (λ o. option_map_or (λ e. climbs_to es a n e.parent) o false) read

module _ (es : List Entry) (a : ℕ) (p : Names) (t : IsTree (links_of es)) (at : path_at (links_of es) a ≡ Some p) where
  same_entry : (n i : ℕ) (r : Names) → up (links_of es) i n ≡ Some r → nat_eq i a ≡ true → climbs_to es a n i ≡ is_under p r
  same_entry n i r h is =
      let same : i ≡ a = eqb-true i a is in
      let path : path_at (links_of es) a ≡ Some r = ap (path_at (links_of es)) (sym same) ∙ path_found (links_of es) t.within n i r h in
      let one : r ≡ p = some_is _ _ (sym path ∙ at) in
      here es a n i is ∙ sym (ap (is_under p) one ∙ under_itself p)

  pub climbs : (n i : ℕ) (r : Names) → up (links_of es) i n ≡ Some r → climbs_to es a n i ≡ is_under p r
  climbs n zero r h = elim (nat_eq 0 a) as (λ b. nat_eq 0 a ≡ b → climbs_to es a n 0 ≡ is_under p r) [
    | true ↦ λ is. same_entry n zero r h is
    | false ↦ λ is.
        let none : p ≢ [] = λ e. eqb-false 0 a is (t.differ 0 a [] t.root (at ∙ ap Some e)) in
        at_zero es a n ∙ is ∙ sym (ap (is_under p) (root_path (links_of es) n r h) ∙ under_none p none)
  ] refl
  climbs zero (suc i) r h = cc
  climbs (suc n) (suc i) r h =
      let u = above (links_of es) i (suc n) r h in
      let k : u.m ≡ n = omega (arith, u.fuel) in
      let e = entry_at es (suc i) u.link u.live in
      let parent = ap (up (links_of es) u.link.parent) (sym k) ∙ u.parent in
      elim (nat_eq (suc i) a) as (λ b. nat_eq (suc i) a ≡ b → climbs_to es a (suc n) (suc i) ≡ is_under p r) [
        | true ↦ λ is. same_entry (suc n) (suc i) r h is
        | false ↦ λ is.
            let other : p ≢ u.front ++ u.link.name ∷ [] = λ z. eqb-false (suc i) a is (t.differ (suc i) a p (path_found (links_of es) t.within (suc n) (suc i) r h ∙ ap Some (u.is ∙ sym z)) at) in
            there es a n i e.entry is e.is ∙ ap (λ (l : Link). climbs_to es a n l.parent) (sym e.holds)
            ∙ climbs n u.link.parent u.front parent ∙ sym (ap (is_under p) u.is ∙ under_push p u.front u.link.name other)
      ] refl

-- ---- usage

pub total_slots : (g : Links) → IsTree g → (f : Names → Node → ℕ) → total f (nodes_of g) ≡ sum_by (slot_share f) (map (slot g) (range_with_len 0 g.size))
unfolding slots
total_slots g t f = total-of_slots paths_total paths_exact f (slots g) (differ_slots g t)

-- the shares, as the code reads them
module _ (es : List Entry) (i : ℕ) (e : Entry) (t : IsTree (links_of es)) (within : i < length es) (read : e ≡ get_or es i e) where
  at : slice_get es i ≡ Some e
  at = slice_get_read es _ i e refl within read

  -- a free place adds nothing
  pub share_free : e.live ≡ false → (f : Names → Node → ℕ) → 0 ≡ slot_share f (slot (links_of es) i)
  share_free free f = sym (ap (slot_share f) (slot_empty (links_of es) i (free_entry es i e at free)))

  pub path_of_entry : e.live ≡ true → (p : Names) × (path_at (links_of es) i ≡ Some p)
  path_of_entry live = some_of (path_at (links_of es) i) (t.reaches i (held e) (live_entry es i e at live))

  pub share_live : e.live ≡ true → (f : Names → Node → ℕ) (p : Names) → path_at (links_of es) i ≡ Some p → f p e.node ≡ slot_share f (slot (links_of es) i)
  share_live live f p path = sym (ap (slot_share f) (slot_of (links_of es) i p (held e) path (live_entry es i e at live)))

  pub share_blocks : e.live ≡ true → length (blocks_of e.node.kind) ≡ slot_share (λ p node. length (blocks_of node.kind)) (slot (links_of es) i)
  share_blocks live = let p = path_of_entry live in share_live live (λ p node. length (blocks_of node.kind)) p.0 p.1

  pub kind_live : IsWithinLimits (nodes_of (links_of es)) → e.live ≡ true → IsKind e.node.kind
  kind_live limits live =
      let p = path_of_entry live in
      let n = limits.each p.0 e.node (node_found (links_of es) i p.0 (held e) t p.1 (live_entry es i e at live)) in n.kind

  -- what a live one adds below a place is told by climbing
  module _ (a : ℕ) (has : has_place (links_of es) a ≡ true) (live : e.live ≡ true) (b : Bool) (is : b ≡ climbs_to es a (length es) i) where
    told : (p : Names) → path_at (links_of es) i ≡ Some p → b ≡ is_under (place_of (links_of es) a) p
    unfolding path_at
    told p path = is ∙ climbs es a (place_of (links_of es) a) t (path_of_place (links_of es) a has) (length es) i p path

    pub names_told : cond b 1 0 ≡ slot_share (name_share (place_of (links_of es) a)) (slot (links_of es) i)
    names_told = let p = path_of_entry live in ap (λ b. cond b 1 0) (told p.0 p.1) ∙ share_live live (name_share (place_of (links_of es) a)) p.0 p.1

    pub space_told : cond b (space_of e.node.kind) 0 ≡ slot_share (space_share (place_of (links_of es) a)) (slot (links_of es) i)
    space_told = let p = path_of_entry live in ap (λ b. cond b (space_of e.node.kind) 0) (told p.0 p.1) ∙ share_live live (space_share (place_of (links_of es) a)) p.0 p.1

-- one place more
pub share_more : (es xs : List Entry) (F : List Entry → Names → Node → ℕ) (i n k : ℕ) → xs ≡ es → n ≡ sum_by (slot_share (F es)) (map (slot (links_of es)) (range_with_len 0 i)) → k ≡ slot_share (F xs) (slot (links_of xs) i)
    → n + k ≡ sum_by (slot_share (F es)) (map (slot (links_of es)) (range_with_len 0 (i + 1)))
share_more es xs F i n k is sum here =
    let h : k ≡ slot_share (F es) (slot (links_of es) i) = here ∙ ap (λ (xs : List Entry). slot_share (F xs) (slot (links_of xs) i)) is in
    omega (arith, sum_by-map-range_with_len_more (slot_share (F es)) (slot (links_of es)) 0 i i (omega arith))

-- all places
pub share_all : (es : List Entry) (f : Names → Node → ℕ) (i n : ℕ) → IsTree (links_of es) → i ≡ length es → n ≡ sum_by (slot_share f) (map (slot (links_of es)) (range_with_len 0 i)) → n ≡ total f (nodes_of (links_of es))
share_all es f i n t all sum = sum ∙ ap (λ i. sum_by (slot_share f) (map (slot (links_of es)) (range_with_len 0 i))) all ∙ sym (total_slots (links_of es) t f)

-- the first places add up to no more than all
pub part_of_sum : {A : Type 0} (f : A → ℕ) (k : ℕ → A) (n m : ℕ) → sum_by f (map k (range_with_len 0 n)) ≤ sum_by f (map k (range_with_len 0 (n + m)))
part_of_sum f k n zero = ap_le (ap (λ n. sum_by f (map k (range_with_len 0 n))) (add-zero n))
  where
    ap_le : {a b : ℕ} → b ≡ a → a ≤ b
    ap_le e = omega arith
part_of_sum f k n (suc m) =
    let more = sum_by-map-range_with_len_more f k 0 (n + m) (n + m) (omega arith) in
    let e : n + suc m ≡ (n + m) + 1 = omega arith in
    omega (arith, part_of_sum f k n m, more, ap (λ n. sum_by f (map k (range_with_len 0 n))) e)

-- so the blocks that were counted, and one entry's more, are within the limit
pub few_blocks : (es : List Entry) (i n k : ℕ) → IsTree (links_of es) → IsWithinLimits (nodes_of (links_of es)) → i < length es
    → n + k ≡ sum_by (slot_share (λ p node. length (blocks_of node.kind))) (map (slot (links_of es)) (range_with_len 0 (i + 1))) → n + k ≤ most_blocks
few_blocks es i n k t limits within sum =
    let f = λ (p : Names) (node : Node). length (blocks_of node.kind) in
    let part = part_of_sum (slot_share f) (slot (links_of es)) (i + 1) (length es - (i + 1)) in
    let e : (i + 1) + (length es - (i + 1)) ≡ length es = omega arith in
    let all = total_slots (links_of es) t f in
    let most = limits.blocks in
    omega (arith, ap (λ n. sum_by (slot_share f) (map (slot (links_of es)) (range_with_len 0 n))) e)
