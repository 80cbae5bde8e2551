-- How sums over a map change with the map.
use Rattle.std.proofs.Common.{◌≡◌, ℕ, ◌+◌, Bool, true, false, cond, T, List, [], ◌∷◌, Some, None, refl, sym, ap, subst, ◌∙◌, arith, ◌&&◌}
use Rattle.std.specs.Prelude.{sum_by}
use Rattle.std.specs.List.{filter}
use Rattle.std.specs.declared.cmp.Ordering.{Ordering}
use Rattle.std.specs.declared.cmp.Ordering.TheVariants.{Less, Equal, Greater}
use Rattle.std.specs.Ordering.{is_eq, is_lt}
use Rattle.std.specs.Cmp.{IsTotalOrder}
use Rattle.std.specs.FinMap.{FinMap, entries, entries_sorted, get, insert, put, find, is_sorted, entries-insert, get-entries, IsAntisymmetric, retain_keys, get-retain_keys, from_sorted, entries-from_sorted, get-from_sorted, same_map}
use Rattle.std.specs.FinMap.Entries.{by_order, below_all, where_key, is_sorted-where_key, find-where_key}
use Rattle.std.proofs.lemmas.List.Sums.{sum_by-cons}
use Rattle.nn_base.proofs.PlainLemmas.{both_true}
use Rattle.nn_tree.specs.Totals.{total}

both : (a b : Bool) → T a → T b → T (a && b)
both true b p q = q
both false b p q = p

is_less : (r : Ordering) → T (is_lt r) → r ≡ Less
is_less Less h = refl
is_less Equal h = absurd h
is_less Greater h = absurd h

module _ {K X : Type 0} (R : K → K → Ordering) where
  abbrev pub of_all : (K → X → ℕ) → List (K × X) → ℕ
  of_all f [] = 0
  of_all f (e ∷ es) = f e.0 e.1 + of_all f es

  pub of_all-sum_by : (f : K → X → ℕ) (es : List (K × X)) → of_all f es ≡ sum_by (λ e. f e.0 e.1) es
  of_all-sum_by f [] = refl
  of_all-sum_by f (e ∷ es) = ap (λ n. f e.0 e.1 + n) (of_all-sum_by f es) ∙ sym (sum_by-cons (λ (d : K × X). f d.0 d.1) e es)

  -- a new key adds its own
  of_all-put : (f : K → X → ℕ) (k : K) (v : X) (es : List (K × X)) → find R k es ≡ None → of_all f (put R k v es) ≡ f k v + of_all f es
  of_all-put f k v [] none = refl
  of_all-put f k v (e ∷ es) none =
      elim (R k e.0) as (λ r. cond (is_eq r) (Some e.1) (find R k es) ≡ None → of_all f (by_order r ((k, v) ∷ e ∷ es) ((e.0, v) ∷ es) (e ∷ put R k v es)) ≡ f k v + (f e.0 e.1 + of_all f es)) [
        | Less ↦ λ none. refl
        | Equal ↦ λ none. cc
        | Greater ↦ λ none. omega (arith, of_all-put f k v es none)
      ] none

  module _ (o : IsTotalOrder R) where
    below_less : (x y : K) (es : List (K × X)) → R x y ≡ Less → T (below_all R y es) → T (below_all R x es)
    below_less x y [] p h = tt
    below_less x y (e ∷ es) p h = both _ _ (subst (λ r. T (is_lt r)) (sym (o.trans x y e.0 p (is_less _ (both_true _ _ h).0))) tt) (below_less x y es p (both_true _ _ h).1)

    find_below : (q : K) (es : List (K × X)) → T (below_all R q es) → find R q es ≡ None
    find_below q [] h = refl
    find_below q (e ∷ es) h = ap (λ r. cond (is_eq r) (Some e.1) (find R q es)) (is_less _ (both_true _ _ h).0) ∙ find_below q es (both_true _ _ h).1

    -- at a key that is there, the new value's takes the old one's place
    of_all-put_old : IsAntisymmetric R → (f : K → X → ℕ) (k : K) (v x : X) (es : List (K × X)) → T (is_sorted R es) → find R k es ≡ Some x → of_all f (put R k v es) + f k x ≡ f k v + of_all f es
    of_all-put_old same f k v x [] h is = cc
    of_all-put_old same f k v x (e ∷ es) h is =
        elim (R k e.0) as (λ r. R k e.0 ≡ r → cond (is_eq r) (Some e.1) (find R k es) ≡ Some x → of_all f (by_order r ((k, v) ∷ e ∷ es) ((e.0, v) ∷ es) (e ∷ put R k v es)) + f k x ≡ f k v + (f e.0 e.1 + of_all f es)) [
          | Less ↦ λ p is. let none = find_below k es (below_less k e.0 es p (both_true _ _ h).0) in cc
          | Equal ↦ λ p is.
              let key : k ≡ e.0 = same _ _ p in
              let value : e.1 ≡ x = cc in
              let a : f e.0 v ≡ f k v = cc in
              let b : f k x ≡ f e.0 e.1 = cc in
              omega arith
          | Greater ↦ λ p is. omega (arith, of_all-put_old same f k v x es (both_true _ _ h).1 is)
        ] refl is

    pub total-insert : (f : K → X → ℕ) (m : FinMap R X) (k : K) (v : X) → get m k ≡ None → total f (insert m k v) ≡ f k v + total f m
    total-insert f m k v none =
        sym (of_all-sum_by f _) ∙ ap (of_all f) (entries-insert o m k v)
        ∙ of_all-put f k v (entries m) (sym (get-entries m k) ∙ none) ∙ ap (λ n. f k v + n) (of_all-sum_by f _)

    pub total-insert_old : IsAntisymmetric R → (f : K → X → ℕ) (m : FinMap R X) (k : K) (v x : X) → get m k ≡ Some x → total f (insert m k v) + f k x ≡ f k v + total f m
    total-insert_old same f m k v x is =
        ap (λ n. n + f k x) (sym (of_all-sum_by f _) ∙ ap (of_all f) (entries-insert o m k v))
        ∙ of_all-put_old same f k v x (entries m) (entries_sorted m) (sym (get-entries m k) ∙ is) ∙ ap (λ n. f k v + n) (of_all-sum_by f _)

    -- the entries that are kept are a filter of those that were there
    pub entries-retain_keys : IsAntisymmetric R → (m : FinMap R X) (p : K → Bool) → entries (retain_keys m p) ≡ filter (λ e. p e.0) (entries m)
    entries-retain_keys same m p =
        let h : T (is_sorted R (where_key R p (entries m))) = is_sorted-where_key R p (entries m) (entries_sorted m) in
        let alike = λ (q : K) (x : K) (t : R q x ≡ Equal). ap p (sym (same q x t)) in
        let is : retain_keys m p ≡ from_sorted (where_key R p (entries m)) =
        same_map o same _ _ (λ q. get-retain_keys m p q (alike q) ∙ ap (λ n. cond (p q) n None) (get-entries m q)
        ∙ sym (find-where_key R p q (alike q) (entries m)) ∙ sym (get-from_sorted R _ q h)) in
        ap entries is ∙ entries-from_sorted R _ h

    of_all-where : (f : K → X → ℕ) (p : K → Bool) (es : List (K × X)) → of_all f (filter (λ e. p e.0) es) ≡ of_all (λ k x. cond (p k) (f k x) 0) es
    of_all-where f p [] = refl
    of_all-where f p (e ∷ es) =
        elim (p e.0) as (λ b. of_all f (cond b (e ∷ filter (λ e. p e.0) es) (filter (λ e. p e.0) es)) ≡ cond b (f e.0 e.1) 0 + of_all (λ k x. cond (p k) (f k x) 0) es) [
          | true ↦ ap (λ n. f e.0 e.1 + n) (of_all-where f p es)
          | false ↦ omega (arith, of_all-where f p es)
        ]

    pub total-retain_keys : IsAntisymmetric R → (f : K → X → ℕ) (m : FinMap R X) (p : K → Bool) → total f (retain_keys m p) ≡ total (λ k x. cond (p k) (f k x) 0) m
    total-retain_keys same f m p =
        sym (of_all-sum_by f _) ∙ ap (of_all f) (entries-retain_keys same m p) ∙ of_all-where f p (entries m) ∙ of_all-sum_by _ _
