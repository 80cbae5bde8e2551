-- How the map of a list of slots changes with the list.
use Rattle.std.proofs.Common.{◌≡◌, ◌≢◌, ℕ, zero, suc, ◌+◌, ◌<◌, Bool, true, false, cond, List, [], ◌∷◌, length, Option, Some, None, refl, sym, ap, subst, ◌∙◌, arith}
use Rattle.std.specs.Prelude.{sum_by}
use Rattle.std.proofs.Math.ListN.{set}
use Rattle.std.specs.declared.cmp.Ordering.{Ordering}
use Rattle.std.specs.Ordering.{eq_by_cmp}
use Rattle.std.specs.Cmp.{IsTotalOrder, eq_by_cmp_equiv}
use Rattle.std.specs.FinMap.{FinMap, get, insert, empty, get-insert, get-empty, IsAntisymmetric, same_map, entries, len-empty, len-entries}
use Rattle.std.proofs.lemmas.List.Sums.{sum_by-cons}
use Rattle.std.proofs.lemmas.List.{nil_from_length}
use Rattle.nn_base.proofs.PlainLemmas.{is_equal}
use Rattle.nn_tree.specs.Totals.{total}
use Rattle.nn_tree.specs.Slots.{of_slots, slot_at, slot_share, Differ}
use Rattle.nn_tree.proofs.TotalsLemmas.{total-insert}

module _ {K : Type 0} {R : K → K → Ordering} (o : IsTotalOrder R) (same : IsAntisymmetric R) where
  pub ties : (q k : K) → eq_by_cmp R q k ≡ true → q ≡ k
  ties q k h = same q k (is_equal _ h)

pub itself : {K : Type 0} {R : K → K → Ordering} → IsTotalOrder R → (q : K) → eq_by_cmp R q q ≡ true
itself o q = (eq_by_cmp_equiv o).refl q

pub total-empty : {K X : Type 0} (R : K → K → Ordering) (f : K → X → ℕ) → total f (empty {X = X} {R = R}) ≡ 0
total-empty {X = X} R f = ap (sum_by (λ e. f e.0 e.1)) (nil_from_length (entries (empty {X = X} {R = R})) (sym (len-entries empty) ∙ len-empty R X))

module _ {K X : Type 0} {R : K → K → Ordering} (o : IsTotalOrder R) (same : IsAntisymmetric R) where
  pub insert_swap : (m : FinMap R X) (k a : K) (x v : X) → eq_by_cmp R k a ≡ false → insert (insert m k x) a v ≡ insert (insert m a v) k x
  insert_swap m k a x v apart = same_map o same _ _ (λ q.
      get-insert o _ a v q ∙ ap (cond (eq_by_cmp R q a) (Some v)) (get-insert o m k x q)
      ∙ by q (eq_by_cmp R q a) (eq_by_cmp R q k) refl refl
      ∙ sym (get-insert o _ k x q ∙ ap (cond (eq_by_cmp R q k) (Some x)) (get-insert o m a v q)))
    where
      by : (q : K) (p r : Bool) → eq_by_cmp R q a ≡ p → eq_by_cmp R q k ≡ r → cond p (Some v) (cond r (Some x) (get m q)) ≡ cond r (Some x) (cond p (Some v) (get m q))
      by q true true p r = let e : eq_by_cmp R k a ≡ true = subst (λ z. eq_by_cmp R z a ≡ true) (ties o same q k r) p in cc
      by q true false p r = refl
      by q false r p h = refl

  pub insert_over : (m : FinMap R X) (k : K) (v x : X) → insert (insert m k v) k x ≡ insert m k x
  insert_over m k v x = same_map o same _ _ (λ q.
      get-insert o _ k x q ∙ ap (cond (eq_by_cmp R q k) (Some x)) (get-insert o m k v q)
      ∙ elim (eq_by_cmp R q k) as (λ b. cond b (Some x) (cond b (Some v) (get m q)) ≡ cond b (Some x) (get m q)) [ true ↦ refl | false ↦ refl ]
      ∙ sym (get-insert o m k x q))

  differ_rest : (e : Option (K × X)) (s : List (Option (K × X))) → Differ (e ∷ s) → Differ s
  differ_rest e s d i j a b p q r = let h : suc i ≡ suc j = d (suc i) (suc j) a b p q r in omega arith

  -- what the map has at a key stands in a slot
  pub found : (s : List (Option (K × X))) (k : K) (x : X) → get (of_slots {R = R} s) k ≡ Some x → (i : ℕ) × (slot_at s i ≡ Some (k, x))
  unfolding of_slots
  found [] k x is = let h = get-empty {X = X} R k in cc
  found (None ∷ s) k x is = let r = found s k x is in (suc r.0, r.1)
  found (Some e ∷ s) k x is =
      elim (eq_by_cmp R k e.0) as (λ b. eq_by_cmp R k e.0 ≡ b → cond b (Some e.1) (get (of_slots {R = R} s) k) ≡ Some x → (i : ℕ) × (slot_at (Some e ∷ s) i ≡ Some (k, x))) [
        | true ↦ λ p h. let t : k ≡ e.0 = ties o same _ _ p in let v : e.1 ≡ x = cc in (zero, λ i. Some (sym t i, v i))
        | false ↦ λ p h. let r = found s k x h in (suc r.0, r.1)
      ] refl (sym (get-insert o (of_slots s) e.0 e.1 k) ∙ is)

  -- and what stands in a slot, the map has
  pub hit : (s : List (Option (K × X))) (i : ℕ) (k : K) (x : X) → Differ s → slot_at s i ≡ Some (k, x) → get (of_slots {R = R} s) k ≡ Some x
  unfolding of_slots
  hit [] i k x d is = cc
  hit (None ∷ s) zero k x d is = cc
  hit (None ∷ s) (suc i) k x d is = hit s i k x (differ_rest _ _ d) is
  hit (Some e ∷ s) zero k x d is =
      let t : e ≡ (k, x) = cc in
      get-insert o (of_slots s) e.0 e.1 k ∙ ap (λ (e : K × X). cond (eq_by_cmp R k e.0) (Some e.1) (get (of_slots {R = R} s) k)) t
      ∙ ap (λ b. cond b (Some x) (get (of_slots {R = R} s) k)) (itself o k)
  hit (Some e ∷ s) (suc i) k x d is =
      get-insert o (of_slots s) e.0 e.1 k
      ∙ elim (eq_by_cmp R k e.0) as (λ b. eq_by_cmp R k e.0 ≡ b → cond b (Some e.1) (get (of_slots {R = R} s) k) ≡ Some x) [
        | true ↦ λ p. let t : k ≡ e.0 = ties o same _ _ p in let z : zero ≡ suc i = d zero (suc i) e (k, x) refl is (sym t) in absurd (omega arith)
        | false ↦ λ p. hit s i k x (differ_rest _ _ d) is
      ] refl

  -- a key that stands in no slot, the map lacks
  pub missed : (s : List (Option (K × X))) (k : K) → ((i : ℕ) (x : X) → slot_at s i ≢ Some (k, x)) → get (of_slots {R = R} s) k ≡ None
  missed s k lacks = elim (get (of_slots {R = R} s) k) as (λ v. get (of_slots {R = R} s) k ≡ v → v ≡ None) [
    | None ↦ λ _. refl
    | Some x ↦ λ is. let f = found s k x is in absurd (lacks f.0 x f.1)
  ] refl

  none_apart : (m : FinMap R X) (k a : K) (v : X) → get (insert m a v) k ≡ None → (eq_by_cmp R k a ≡ false) × (get m k ≡ None)
  none_apart m k a v none = elim (eq_by_cmp R k a) as (λ b. cond b (Some v) (get m k) ≡ None → (b ≡ false) × (get m k ≡ None)) [
    | true ↦ λ h. cc
    | false ↦ λ h. (refl, h)
  ] (sym (get-insert o m a v k) ∙ none)

  -- to fill an empty slot is to insert
  pub set_empty : (s : List (Option (K × X))) (i : ℕ) (k : K) (x : X) → i < length s → slot_at s i ≡ None → get (of_slots {R = R} s) k ≡ None → of_slots {R = R} (set s i (Some (k, x))) ≡ insert (of_slots s) k x
  unfolding of_slots
  set_empty [] i k x lt dead none = absurd (omega arith)
  set_empty (None ∷ s) zero k x lt dead none = refl
  set_empty (Some e ∷ s) zero k x lt dead none = cc
  set_empty (None ∷ s) (suc i) k x lt dead none = set_empty s i k x (omega arith) dead none
  set_empty (Some e ∷ s) (suc i) k x lt dead none =
      let h = none_apart (of_slots s) k e.0 e.1 none in
      ap (λ m. insert m e.0 e.1) (set_empty s i k x (omega arith) dead h.1) ∙ insert_swap (of_slots s) k e.0 x e.1 h.0

  -- to change a slot's value is to insert
  pub set_value : (s : List (Option (K × X))) (i : ℕ) (k : K) (v x : X) → Differ s → slot_at s i ≡ Some (k, v) → of_slots {R = R} (set s i (Some (k, x))) ≡ insert (of_slots s) k x
  unfolding of_slots
  set_value [] i k v x d is = cc
  set_value (None ∷ s) zero k v x d is = cc
  set_value (Some e ∷ s) zero k v x d is =
      let t : e ≡ (k, v) = cc in
      sym (insert_over (of_slots s) k v x) ∙ ap (λ (e : K × X). insert (insert (of_slots s) e.0 e.1) k x) (sym t)
  set_value (None ∷ s) (suc i) k v x d is = set_value s i k v x (differ_rest _ _ d) is
  set_value (Some e ∷ s) (suc i) k v x d is =
      ap (λ m. insert m e.0 e.1) (set_value s i k v x (differ_rest _ _ d) is)
      ∙ insert_swap (of_slots s) k e.0 x e.1
      (elim (eq_by_cmp R k e.0) as (λ b. eq_by_cmp R k e.0 ≡ b → b ≡ false) [
        | true ↦ λ p. let t : k ≡ e.0 = ties o same _ _ p in let z : zero ≡ suc i = d zero (suc i) e (k, v) refl is (sym t) in absurd (omega arith)
        | false ↦ λ p. refl
      ] refl)

  pub total-of_slots : (f : K → X → ℕ) (s : List (Option (K × X))) → Differ s → total f (of_slots {R = R} s) ≡ sum_by (slot_share f) s
  unfolding of_slots
  total-of_slots f [] d = total-empty R f
  total-of_slots f (None ∷ s) d = omega (arith, total-of_slots f s (differ_rest _ _ d), sum_by-cons (slot_share f) None s)
  total-of_slots f (Some e ∷ s) d =
      total-insert R o f (of_slots s) e.0 e.1 (missed s e.0 (λ i x is. let z : zero ≡ suc i = d zero (suc i) e (e.0, x) refl is refl in absurd (omega arith)))
      ∙ ap (λ n. f e.0 e.1 + n) (total-of_slots f s (differ_rest _ _ d)) ∙ sym (sum_by-cons (slot_share f) (Some e) s)
