-- The children of a directory, as a walk from the first to the next sibling comes to them.
use Rattle.std.proofs.Common.{◌≡◌, ◌≢◌, ℕ, zero, suc, ◌+◌, ◌-◌, ◌<◌, ◌≤◌, Bool, true, false, cond, List, [], ◌∷◌, ◌++◌, inl, inr, length, drop, take, map, Option, Some, None, refl, sym, ap, subst, ◌∙◌, arith, is_some, length-append, append_assoc, append-nil}
use Rattle.std.specs.Prelude.{slice_get, count_by}
use Rattle.std.specs.Ordering.{is_lt, ordering_then}
use Rattle.std.specs.List.{flat_map}
use Rattle.std.specs.Cmp.{IsTotalOrder, tied_itself}
use Rattle.std.specs.declared.cmp.Ordering.{Ordering}
use Rattle.std.specs.declared.cmp.Ordering.TheVariants.{Less, Equal, Greater}
use Rattle.std.specs.FinMap.{get, entries, entries_sorted, get-entries}
use Rattle.std.specs.FinMap.Entries.{find, is_sorted, is_sorted-where_key, find-where_key}
use Rattle.std.proofs.lemmas.Bool.{cases_lt, cases_order, and_parts, and_from, eqb-true, eq-eqb}
use Rattle.std.proofs.lemmas.Option.{slice_get_within, none-some, same_Some}
use Rattle.std.proofs.lemmas.Option.{get_or_from_slice_get}
use Rattle.std.proofs.lemmas.List.{take_more, take_all, take-map, map_push, length-map}
use Rattle.std.proofs.lemmas.List.Concat.{flat_map-append}
use Rattle.nn_wire.specs.Varint.{varint}
use Rattle.nn_base.specs.Paths.{Bytes, Names, name_cmp, path_cmp, is_under}
use Rattle.nn_base.proofs.PlainLemmas.{some_of, is_true}
use Rattle.nn_tree.specs.declared.node.Node.{Node}
use Rattle.nn_tree.specs.declared.spot.Spot.{Spot}
use Rattle.nn_tree.specs.Namespace.{Nodes, IsNamespace}
use Rattle.nn_tree.specs.Spots.{IsNextChild}
use Rattle.nn_tree.proofs.LinksLemmas.{paths_total, paths_exact}
use Rattle.nn_tree.proofs.PrefixLemmas.{under_split}
use Rattle.nn_tree.proofs.OrderLemmas.{cancel, under_front, name_above}
use Rattle.nn_tree.proofs.SortedLemmas.{rises, count_at, find_at, found_at}
use Rattle.nn_image.specs.Image.{is_child, children, child_ids, entry_of}
use Rattle.nn_image.specs.Saving.{passed, IsAmongChildren, entry_text}
use Rattle.nn_message.specs.Spelling.{delimited, dir_entry}

one_name : (rest : Names) → length rest ≡ 1 → (name : Bytes) × (rest ≡ name ∷ [])
one_name [] h = absurd (omega arith)
one_name (x ∷ []) h = (x, refl)
one_name (x ∷ y ∷ rest) h = absurd (omega arith)

-- a child's path is the directory's and one name more
pub child_name : (p q : Names) → is_child p q ≡ true → (name : Bytes) × (q ≡ p ++ name ∷ [])
child_name p q h =
    let parts = and_parts (is_under p q) _ h in
    let split = under_split p q parts.0 in
    let len = eqb-true (length q) (length p + 1) parts.1 in
    let sum = ap length split ∙ length-append p (drop (length p) q) in
    let one = one_name (drop (length p) q) (omega (arith, len, sum)) in
    (one.0, split ∙ ap (λ (t : Names). p ++ t) one.1)

pub is_its_child : (p : Names) (name : Bytes) → is_child p (p ++ name ∷ []) ≡ true
is_its_child p name = and_from _ _ (under_front p (name ∷ [])) (eq-eqb _ _ (length-append p (name ∷ [])))

-- siblings stand in the order of their names
names_less : (p : Names) (a b : Bytes) → name_cmp a b ≡ Less → path_cmp (p ++ a ∷ []) (p ++ b ∷ []) ≡ Less
names_less p a b h = cancel p (a ∷ []) (b ∷ []) ∙ ap (λ o. ordering_then o Equal) h

less_names : (p : Names) (a b : Bytes) → path_cmp (p ++ a ∷ []) (p ++ b ∷ []) ≡ Less → name_cmp a b ≡ Less
less_names p a b h = by (name_cmp a b) refl (sym (cancel p (a ∷ []) (b ∷ [])) ∙ h)
  where
    by : (o : Ordering) → name_cmp a b ≡ o → ordering_then (name_cmp a b) Equal ≡ Less → name_cmp a b ≡ Less
    by Less is h = is
    by Equal is h = absurd (not_less (sym (ap (λ o. ordering_then o Equal) is) ∙ h))
      where
        not_less : Equal ≡ Less → ⊥
        not_less e = cc
    by Greater is h = absurd (not_less (sym (ap (λ o. ordering_then o Equal) is) ∙ h))
      where
        not_less : Greater ≡ Less → ⊥
        not_less e = cc

some_at : {A : Type 0} (xs : List A) (k : ℕ) → k < length xs → (x : A) × (slice_get xs k ≡ Some x)
some_at [] k lt = absurd (omega arith)
some_at (x ∷ xs) zero lt = (x, refl)
some_at (x ∷ xs) (suc k) lt = some_at xs k (omega arith)

not_itself : (q : Names) → path_cmp q q ≢ Less
not_itself q l = let t = tied_itself paths_total q in cc

module _ (m : Nodes) (p : Names) where
  in_order : is_sorted path_cmp (children m p) ≡ true
  in_order = is_true _ (is_sorted-where_key path_cmp (is_child p) (entries m) (entries_sorted m))

  find_child : (q : Names) → find path_cmp q (children m p) ≡ cond (is_child p q) (get m q) None
  find_child q = find-where_key path_cmp (is_child p) q (λ x t. ap (is_child p) (sym (paths_exact q x t))) (entries m) ∙ ap (λ v. cond (is_child p q) v None) (sym (get-entries m q))

  pub child_at : (k : ℕ) (e : Names × Node) → slice_get (children m p) k ≡ Some e → (is_child p e.0 ≡ true) × (get m e.0 ≡ Some e.1)
  child_at k e at = by (is_child p e.0) refl (sym (find_child e.0) ∙ find_at paths_total (children m p) k e in_order at)
    where
      by : (b : Bool) → is_child p e.0 ≡ b → cond b (get m e.0) None ≡ Some e.1 → (is_child p e.0 ≡ true) × (get m e.0 ≡ Some e.1)
      by true is h = (is, h)
      by false is h = cc

  found : (q : Names) (node : Node) → is_child p q ≡ true → get m q ≡ Some node → (k : ℕ) × (slice_get (children m p) k ≡ Some (q, node))
  found q node h there = found_at paths_total paths_exact q node (children m p) (find_child q ∙ ap (λ b. cond b (get m q) None) h ∙ there)

  -- a child stands where the walk comes to it
  pub stands_at : (q : Names) (node : Node) (place : Spot → Names) (s : Spot) → place s ≡ q → is_child p q ≡ true → get m q ≡ Some node → slice_get (children m p) (passed m p place (Some s)) ≡ Some (q, node)
  stands_at q node place s is h there =
      let k = found q node h there in
      let n = count_at paths_total (children m p) k.0 (q, node) in_order k.1 in
      let e : passed m p place (Some s) ≡ k.0 = ap (λ x. count_by (λ e. is_lt (path_cmp e.0 x)) (children m p)) is ∙ n in
      ap (slice_get (children m p)) e ∙ k.1

  module _ (has : Spot → Bool) (place : Spot → Names) (bound : Bytes) where
    -- k children have names that aren't above the bound
    record Splits (k : ℕ) : Type 0 where
      few : k ≤ length (children m p)
      above : (i : ℕ) (e : Names × Node) → slice_get (children m p) i ≡ Some e → k ≤ i → path_cmp (p ++ bound ∷ []) e.0 ≡ Less
      not_above : (i : ℕ) (e : Names × Node) → slice_get (children m p) i ≡ Some e → i < k → path_cmp (p ++ bound ∷ []) e.0 ≢ Less

    module _ (named : (s : Spot) → has s ≡ true → is_some (get m (place s)) ≡ true) where
      next_passed : (o : Option Spot) (k : ℕ) → Splits k → IsNextChild o has place m p bound → passed m p place o ≡ k
      next_passed None k splits none = elim (cases_lt k (length (children m p))) as (λ _. length (children m p) ≡ k) [
        | inl less ↦
            let e = some_at (children m p) k less in
            let is = child_at k e.0 e.1 in
            let name = child_name p e.0.0 is.0 in
            let above = less_names p bound name.0 (ap (path_cmp (p ++ bound ∷ [])) (sym name.1) ∙ splits.above k e.0 e.1 (omega arith)) in
            absurd (none-some e.0.1 (sym (none name.0 above) ∙ ap (get m) (sym name.1) ∙ is.1))
        | inr all ↦ let few = splits.few in omega arith
      ]
      next_passed (Some s) k splits next =
          let child : is_child p (place s) ≡ true = ap (is_child p) next.at ∙ is_its_child p next.name in
          let v = some_of (get m (place s)) (named s next.there) in
          let j = found (place s) v.0 child v.1 in
          count_at paths_total (children m p) j.0 (place s, v.0) in_order j.1 ∙ (elim (cases_order j.0 k) as (λ _. j.0 ≡ k) [
            | inl same ↦ same
            | inr (inl low) ↦ absurd (splits.not_above j.0 (place s, v.0) j.1 low (ap (path_cmp (p ++ bound ∷ [])) next.at ∙ names_less p bound next.name next.above))
            | inr (inr high) ↦
                let within = slice_get_within (children m p) j.0 (place s, v.0) j.1 in
                let e = some_at (children m p) k (omega (arith, within, high)) in
                let is = child_at k e.0 e.1 in
                let name = child_name p e.0.0 is.0 in
                let above = less_names p bound name.0 (ap (path_cmp (p ++ bound ∷ [])) (sym name.1) ∙ splits.above k e.0 e.1 (omega arith)) in
                let below = less_names p name.0 next.name ((λ i. path_cmp (sym name.1 i) (sym next.at i)) ∙ rises paths_total (children m p) k j.0 e.0 (place s, v.0) in_order e.1 j.1 high) in
                absurd (next.least name.0 above (ap (λ q. is_some (get m q)) (sym name.1) ∙ ap is_some is.1) below)
          ])

  module _ (has : Spot → Bool) (place : Spot → Names) (named : (s : Spot) → has s ≡ true → is_some (get m (place s)) ≡ true) where
    -- none is passed before the first
    pub first_passed : IsNamespace m → (o : Option Spot) → IsNextChild o has place m p [] → passed m p place o ≡ 0
    first_passed formed o next = next_passed has place [] named o 0 (record {
      few = omega arith;
      above = λ i e at le.
          let is = child_at i e at in
          let name = child_name p e.0 is.0 in
          let good = formed.names p name.0 (ap (λ q. is_some (get m q)) (sym name.1) ∙ ap is_some is.1) in
          ap (path_cmp (p ++ [] ∷ [])) name.1 ∙ names_less p [] name.0 (name_above name.0 good);
      not_above = λ i e at lt. absurd (omega arith);
    }) next

    -- one more is passed with the next
    pub sibling_passed : (k : ℕ) (name : Bytes) (node : Node) (o : Option Spot) → slice_get (children m p) k ≡ Some (p ++ name ∷ [], node) → IsNextChild o has place m p name → passed m p place o ≡ k + 1
    sibling_passed k name node o at next = next_passed has place name named o (k + 1) (record {
      few = let w = slice_get_within (children m p) k (p ++ name ∷ [], node) at in omega (arith, w);
      above = λ i e there le. rises paths_total (children m p) k i (p ++ name ∷ [], node) e in_order at there (omega arith);
      not_above = λ i e there lt less. not_both i e there lt less;
    }) next
      where
        not_both : (i : ℕ) (e : Names × Node) → slice_get (children m p) i ≡ Some e → i < k + 1 → path_cmp (p ++ name ∷ []) e.0 ≡ Less → ⊥
        not_both i e there lt less = elim (cases_lt i k) as (λ _. ⊥) [
          | inl low ↦
              let up = rises paths_total (children m p) i k e (p ++ name ∷ [], node) in_order there at low in
              let o : IsTotalOrder path_cmp = paths_total in
              not_itself e.0 (o.trans e.0 (p ++ name ∷ []) e.0 up less)
          | inr high ↦
              let same : i ≡ k = omega arith in
              let is = same_Some _ _ (sym there ∙ ap (slice_get (children m p)) same ∙ at) in
              not_itself (p ++ name ∷ []) (ap (λ (e : Names × Node). path_cmp (p ++ name ∷ []) e.0) (sym is) ∙ less)
        ]

    pub stays_among : (o : Option Spot) (bound : Bytes) → IsNextChild o has place m p bound → IsAmongChildren o has place p
    stays_among None bound none = tt
    stays_among (Some s) bound next = (next.there, ap (is_child p) next.at ∙ is_its_child p next.name)

-- where a walk stands there is a child
pub stands_among : (p : Names) (has : Spot → Bool) (place : Spot → Names) (at : Option Spot) (s : Spot) → at ≡ Some s → IsAmongChildren at has place p → (has s ≡ true) × (is_child p (place s) ≡ true)
stands_among p has place at s is among = subst (λ o. IsAmongChildren o has place p) is among

-- behind the last child, all of them are passed
pub all_passed : (m : Nodes) (p : Names) (place : Spot → Names) (at : Option Spot) → at ≡ None → take (passed m p place at) (child_ids m p) ≡ child_ids m p
unfolding child_ids
all_passed m p place at is = ap (λ o. take (passed m p place o) (child_ids m p)) is ∙ take_all (length (children m p)) (child_ids m p) (let e = length-map (children m p) (λ (e : Names × Node). e.1.id) in omega (arith, e))

pub none_passed : (m : Nodes) (p : Names) (place : Spot → Names) (at : Option Spot) (front : List ℕ) → passed m p place at ≡ 0 → front ≡ front ++ flat_map varint (take (passed m p place at) (child_ids m p))
none_passed m p place at front none = sym (append-nil front) ∙ ap (λ n. front ++ flat_map varint (take n (child_ids m p))) (sym none)

-- the first child stands at the front
pub some_child : (m : Nodes) (p : Names) (has : Spot → Bool) (place : Spot → Names) → ((s : Spot) → has s ≡ true → is_some (get m (place s)) ≡ true) → IsNamespace m → (s : Spot) → IsNextChild (Some s) has place m p [] → (e : Names × Node) × (slice_get (children m p) 0 ≡ Some e)
some_child m p has place named formed s next =
    let among = stays_among m p has place named (Some s) [] next in
    let v = some_of (get m (place s)) (named s among.0) in
    ((place s, v.0), ap (slice_get (children m p)) (sym (first_passed m p has place named formed (Some s) next)) ∙ stands_at m p (place s) v.0 place s refl among.1 v.1)

-- a step of a walk that stands at the child s, and goes on by the next sibling to `to`
module _ (m : Nodes) (p : Names) (has : Spot → Bool) (place : Spot → Names) (named : (s : Spot) → has s ≡ true → is_some (get m (place s)) ≡ true) (at to : Option Spot) (s : Spot) (node : Node)
    (is : at ≡ Some s) (among : IsAmongChildren at has place p) (there : get m (place s) ≡ Some node) (next : (q : Names) (name : Bytes) → place s ≡ q ++ name ∷ [] → IsNextChild to has place m q name) where
  walks_here : (has s ≡ true) × (is_child p (place s) ≡ true)
  walks_here = stands_among p has place at s is among

  stand : slice_get (children m p) (passed m p place at) ≡ Some (place s, node)
  stand = ap (λ o. slice_get (children m p) (passed m p place o)) is ∙ stands_at m p (place s) node place s refl walks_here.1 there

  pub one_passed : passed m p place to ≡ passed m p place at + 1
  one_passed = let name = child_name p (place s) walks_here.1 in sibling_passed m p has place named (passed m p place at) name.0 node to (stand ∙ ap (λ q. Some (q, node)) name.1) (next p name.0 name.1)

  pub stays_next : IsAmongChildren to has place p
  stays_next = let name = child_name p (place s) walks_here.1 in stays_among m p has place named to name.0 (next p name.0 name.1)

  pub fewer_children : length (children m p) - passed m p place to < length (children m p) - passed m p place at
  fewer_children = let within = slice_get_within (children m p) _ _ stand in let one = one_passed in omega (arith, within, one)

  ids_one_more : take (passed m p place to) (child_ids m p) ≡ take (passed m p place at) (child_ids m p) ++ node.id ∷ []
  unfolding child_ids
  ids_one_more =
      let id = λ (e : Names × Node). e.1.id in
      let k = passed m p place at in
      ap (λ n. take n (map id (children m p))) one_passed ∙ take-map id (k + 1) (children m p)
      ∙ ap (map id) (take_more (children m p) k (place s, node) (slice_get_within (children m p) _ _ stand) ∙ ap (λ e. take k (children m p) ++ e ∷ []) (get_or_from_slice_get (children m p) k (place s, node) (place s, node) stand))
      ∙ map_push id (take k (children m p)) (place s, node)
      ∙ ap (λ ids. ids ++ node.id ∷ []) (sym (take-map id k (children m p)))

  pub ids_put : (front old new : List ℕ) → old ≡ front ++ flat_map varint (take (passed m p place at) (child_ids m p)) → new ≡ old ++ varint node.id → new ≡ front ++ flat_map varint (take (passed m p place to) (child_ids m p))
  ids_put front old new was put =
      let ids = take (passed m p place at) (child_ids m p) in
      put ∙ ap (λ t. t ++ varint node.id) was ∙ append_assoc front (flat_map varint ids) (varint node.id)
      ∙ ap (λ t. front ++ (flat_map varint ids ++ t)) (sym (append-nil (varint node.id)))
      ∙ ap (λ t. front ++ t) (sym (flat_map-append varint ids (node.id ∷ []))) ∙ ap (λ ids. front ++ flat_map varint ids) (sym ids_one_more)

-- ---- the entry of a directory

no_length : {A : Type 0} (xs : List A) → length xs ≡ 0 → xs ≡ []
no_length [] e = refl
no_length (x ∷ xs) e = absurd (omega arith)

pub entry_none : (m : Nodes) (p : Names) (node : Node) → length (children m p) ≡ 0 → entry_text m (p, node) ≡ []
unfolding entry_text child_ids entry_of
entry_none m p node none = ap (λ es. flat_map (λ d. delimited (dir_entry d)) (entry_of node.id (map (λ (e : Names × Node). e.1.id) es))) (no_length (children m p) none)

pub entry_some : (m : Nodes) (p : Names) (node : Node) (e : Names × Node) → slice_get (children m p) 0 ≡ Some e → entry_text m (p, node) ≡ delimited (dir_entry (record { parent = node.id; children = child_ids m p }))
unfolding entry_text child_ids entry_of
entry_some m p node e first = by (children m p) first
  where
    by : (es : List (Names × Node)) → slice_get es 0 ≡ Some e → flat_map (λ d. delimited (dir_entry d)) (entry_of node.id (map (λ (e : Names × Node). e.1.id) es)) ≡ delimited (dir_entry (record { parent = node.id; children = map (λ (e : Names × Node). e.1.id) es }))
    by [] h = absurd (none-some e h)
    by (x ∷ es) h = append-nil _
