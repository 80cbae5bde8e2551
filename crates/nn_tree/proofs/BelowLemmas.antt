-- For callers: a walk by the next path visits the entries below its top, in their order.
use Rattle.std.proofs.Common.{◌≡◌, ◌≢◌, ℕ, zero, suc, ◌+◌, ◌-◌, ◌<◌, Bool, true, false, cond, List, [], ◌∷◌, ◌++◌, inl, inr, length, take, drop, Option, Some, None, refl, sym, ap, subst, ◌∙◌, arith, is_some, get_or, append-nil}
use Rattle.std.specs.Prelude.{slice_get, option_map, count_by}
use Rattle.std.specs.Ordering.{is_lt}
use Rattle.std.specs.List.{filter}
use Rattle.std.proofs.lemmas.List.Sums.{sum_by-cons}
use Rattle.std.specs.declared.cmp.Ordering.{Ordering}
use Rattle.std.specs.declared.cmp.Ordering.TheVariants.{Less, Equal, Greater}
use Rattle.std.specs.FinMap.{get, entries, entries_sorted, get-entries}
use Rattle.std.specs.FinMap.Entries.{find, is_sorted, is_sorted-where_key, find-where_key}
use Rattle.std.proofs.lemmas.Bool.{cases_lt}
use Rattle.std.proofs.lemmas.List.{take_more}
use Rattle.std.proofs.lemmas.Option.{slice_get-get_or, slice_get_within, slice_get_past, get_or_from_slice_get}
use Rattle.nn_base.specs.Paths.{Names, path_cmp, is_under}
use Rattle.nn_base.proofs.PlainLemmas.{some_of, is_true}
use Rattle.nn_tree.specs.declared.node.Node.{Node}
use Rattle.nn_tree.specs.declared.spot.Spot.{Spot}
use Rattle.nn_tree.specs.Namespace.{Nodes}
use Rattle.nn_tree.specs.Below.{entries_below, IsNextBelow, count_before, visited, IsBelow}
use Rattle.nn_tree.proofs.LinksLemmas.{paths_total, paths_exact}
use Rattle.nn_tree.proofs.PrefixLemmas.{under_split, under_itself}
use Rattle.nn_tree.proofs.OrderLemmas.{cancel, none_less}
use Rattle.nn_tree.proofs.SortedLemmas.{rises, count_at, find_at, found_at, next_place}

-- top is the least path below it
least_below : (top q : Names) → is_under top q ≡ true → path_cmp q top ≢ Less
least_below top q h l =
    let d = drop (length top) q in
    none_less d (sym (cancel top d []) ∙ (λ i. path_cmp (sym (under_split top q h) i) (append-nil top i)) ∙ l)

not_less : (o : Ordering) → o ≢ Less → is_lt o ≡ false
not_less Less h = absurd (h refl)
not_less Equal h = refl
not_less Greater h = refl

count_none : {A : Type 0} (p q : A → Bool) → ((x : A) → p x ≡ true → q x ≡ false) → (xs : List A) → count_by q (filter p xs) ≡ 0
count_none p q h [] = refl
count_none p q h (x ∷ xs) = elim (p x) as (λ b. p x ≡ b → count_by q (cond b (x ∷ filter p xs) (filter p xs)) ≡ 0) [
  | true ↦ λ is. sum_by-cons (λ x. cond (q x) 1 0) x (filter p xs) ∙ ap (λ b. cond b 1 0 + count_by q (filter p xs)) (h x is) ∙ ap (λ n. 0 + n) (count_none p q h xs)
  | false ↦ λ is. count_none p q h xs
] refl

module _ (m : Nodes) (top : Names) where
  in_order : is_sorted path_cmp (entries_below m top) ≡ true
  in_order = is_true _ (is_sorted-where_key path_cmp (is_under top) (entries m) (entries_sorted m))

  find_below : (q : Names) → find path_cmp q (entries_below m top) ≡ cond (is_under top q) (get m q) None
  find_below q = find-where_key path_cmp (is_under top) q (λ x t. ap (is_under top) (sym (paths_exact q x t))) (entries m) ∙ ap (λ v. cond (is_under top q) v None) (sym (get-entries m q))

  -- each is an entry of the map, at or below top
  pub entry_at : (k : ℕ) (e : Names × Node) → slice_get (entries_below m top) k ≡ Some e → (is_under top e.0 ≡ true) × (get m e.0 ≡ Some e.1)
  entry_at k e at = by (is_under top e.0) refl (sym (find_below e.0) ∙ find_at paths_total (entries_below m top) k e in_order at)
    where
      by : (b : Bool) → is_under top e.0 ≡ b → cond b (get m e.0) None ≡ Some e.1 → (is_under top e.0 ≡ true) × (get m e.0 ≡ Some e.1)
      by true is h = (is, h)
      by false is h = cc

  found : (p : Names) (node : Node) → is_under top p ≡ true → get m p ≡ Some node → (k : ℕ) × (slice_get (entries_below m top) k ≡ Some (p, node))
  found p node h there = found_at paths_total paths_exact p node (entries_below m top) (find_below p ∙ ap (λ b. cond b (get m p) None) h ∙ there)

  -- an entry stands where the walk comes to it
  pub entry_of : (p : Names) (node : Node) → is_under top p ≡ true → get m p ≡ Some node → slice_get (entries_below m top) (count_before m top p) ≡ Some (p, node)
  entry_of p node h there = let k = found p node h there in ap (slice_get (entries_below m top)) (count_at paths_total (entries_below m top) k.0 (p, node) in_order k.1) ∙ k.1

  -- top is the first
  pub first_is_top : (node : Node) → get m top ≡ Some node → slice_get (entries_below m top) 0 ≡ Some (top, node)
  first_is_top node there = let k = found top node (under_itself top) there in by k.0 k.1
    where
      by : (k : ℕ) → slice_get (entries_below m top) k ≡ Some (top, node) → slice_get (entries_below m top) 0 ≡ Some (top, node)
      by zero at = at
      by (suc k) at =
          let within = slice_get_within (entries_below m top) (suc k) (top, node) at in
          let e = get_or (entries_below m top) 0 (top, node) in
          let there : slice_get (entries_below m top) 0 ≡ Some e = slice_get-get_or (entries_below m top) 0 (top, node) (omega arith) in
          absurd (least_below top e.0 (entry_at 0 e there).0 (rises paths_total (entries_below m top) 0 (suc k) e (top, node) in_order there at (omega arith)))

  -- a walk starts there
  pub none_visited : count_before m top top ≡ 0
  none_visited = count_none (λ e. is_under top e.0) (λ e. is_lt (path_cmp e.0 top)) (λ e h. not_less _ (least_below top e.0 h)) (entries m)

  module _ (has : Spot → Bool) (place : Spot → Names) (p : Names) where
    -- the k-th entry in the order of paths: what comes next is at the one behind it
    next_visited : (o : Option Spot) (k : ℕ) (node : Node) → slice_get (entries_below m top) k ≡ Some (p, node) → IsNextBelow o has place m top p → visited m top place o ≡ k + 1
    next_visited None k node at none =
        let within = slice_get_within (entries_below m top) k (p, node) at in
        elim (cases_lt (k + 1) (length (entries_below m top))) as (λ _. length (entries_below m top) ≡ k + 1) [
          | inl lt ↦
              let e = get_or (entries_below m top) (k + 1) (p, node) in
              let there : slice_get (entries_below m top) (k + 1) ≡ Some e = slice_get-get_or (entries_below m top) (k + 1) (p, node) lt in
              let is = entry_at (k + 1) e there in
              absurd (none e.0 (record { there = ap is_some is.1; under = is.0; after = rises paths_total (entries_below m top) k (k + 1) (p, node) e in_order at there (omega arith) }))
          | inr le ↦ omega arith
        ]
    next_visited (Some s) k node at next =
        let v = some_of (get m (place s)) next.1.there in
        let to = found (place s) v.0 next.1.under v.1 in
        count_at paths_total (entries_below m top) to.0 (place s, v.0) in_order to.1
        ∙ next_place paths_total (entries_below m top) k to.0 (p, node) (place s, v.0) in_order at to.1 next.1.after
        (λ i e there above. let is = entry_at i e there in next.2 e.0 (record { there = ap is_some is.1; under = is.0; after = above }))

    -- ... and there is none exactly where no entry is behind it
    pub next_at : (o : Option Spot) (k : ℕ) (node : Node) → slice_get (entries_below m top) k ≡ Some (p, node) → IsNextBelow o has place m top p → option_map place o ≡ option_map (λ e. e.0) (slice_get (entries_below m top) (k + 1))
    next_at None k node at none =
        let all = next_visited None k node at none in
        sym (ap (option_map (λ (e : Names × Node). e.0)) (slice_get_past (entries_below m top) (k + 1) (omega arith)))
    next_at (Some s) k node at next =
        let v = some_of (get m (place s)) next.1.there in
        let there = entry_of (place s) v.0 next.1.under v.1 in
        sym (ap (option_map (λ (e : Names × Node). e.0)) (ap (slice_get (entries_below m top)) (sym (next_visited (Some s) k node at next)) ∙ there))

-- ---- a step of a walk that stands at a spot, and goes on by next_below to `to`

pub stays_below : (m : Nodes) (top : Names) (has : Spot → Bool) (place : Spot → Names) (p : Names) (to : Option Spot) → IsNextBelow to has place m top p → IsBelow to has place top
stays_below m top has place p None next = tt
stays_below m top has place p (Some s) next = (next.0, next.1.under)

module _ (m : Nodes) (top : Names) (has : Spot → Bool) (place : Spot → Names) (at to : Option Spot) (s : Spot) (node : Node) (is : at ≡ Some s) (below : IsBelow at has place top) (there : get m (place s) ≡ Some node) (next : IsNextBelow to has place m top (place s)) where
  stands : slice_get (entries_below m top) (visited m top place at) ≡ Some (place s, node)
  stands = ap (λ o. slice_get (entries_below m top) (visited m top place o)) is ∙ entry_of m top (place s) node (subst (λ (o : Option Spot). IsBelow o has place top) is below).1 there

  -- one entry more is visited, the one where the walk stood
  pub one_more : visited m top place to ≡ visited m top place at + 1
  one_more = next_visited m top has place (place s) to (visited m top place at) node stands next

  pub take_one_more : take (visited m top place to) (entries_below m top) ≡ take (visited m top place at) (entries_below m top) ++ (place s, node) ∷ []
  take_one_more =
      ap (λ n. take n (entries_below m top)) one_more
      ∙ take_more (entries_below m top) (visited m top place at) (place s, node) (slice_get_within (entries_below m top) _ _ stands)
      ∙ ap (λ e. take (visited m top place at) (entries_below m top) ++ e ∷ []) (get_or_from_slice_get (entries_below m top) (visited m top place at) (place s, node) (place s, node) stands)

  -- the measure of a walk: how many are left
  pub fewer_left : length (entries_below m top) - visited m top place to < length (entries_below m top) - visited m top place at
  fewer_left = let within = slice_get_within (entries_below m top) _ _ stands in let more = one_more in omega arith
