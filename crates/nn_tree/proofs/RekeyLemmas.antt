-- A map whose keys are changed, told by slots.
use Rattle.std.proofs.Common.{◌≡◌, ℕ, zero, suc, T, List, [], ◌∷◌, map, Option, Some, None, refl, sym, ap, subst, ◌∙◌}
use Rattle.std.specs.declared.cmp.Ordering.{Ordering}
use Rattle.std.specs.Ordering.{is_lt}
use Rattle.std.specs.Cmp.{IsTotalOrder, tied_itself}
use Rattle.std.specs.FinMap.{FinMap, get, insert, entries, entries_sorted, from_entries, get-from_entries, get-entries, is_sorted, IsAntisymmetric, same_map}
use Rattle.std.specs.FinMap.Entries.{below_all}
use Rattle.nn_base.proofs.PlainLemmas.{some_is, both_true}
use Rattle.nn_tree.specs.Slots.{of_slots, slot_at, rekey_slot, Differ}
use Rattle.nn_tree.proofs.SlotsLemmas.{hit, found}

pub slot_map : {K X : Type 0} (f : K → K) (s : List (Option (K × X))) (i : ℕ) → slot_at (map (rekey_slot f) s) i ≡ rekey_slot f (slot_at s i)
slot_map f [] i = refl
slot_map f (o ∷ s) zero = refl
slot_map f (o ∷ s) (suc i) = slot_map f s i

pub rekeyed_from : {K X : Type 0} (f : K → K) (o : Option (K × X)) (q : K) (x : X) → rekey_slot f o ≡ Some (q, x) → (k : K) × (o ≡ Some (k, x)) × (f k ≡ q)
rekeyed_from f None q x h = cc
rekeyed_from {K = K} {X = X} f (Some e) q x h =
    let p : ◌≡◌ {A = K × X} (f e.0, e.1) (q, x) = some_is _ _ h in
    (e.0, (λ i. Some (e.0, (p i).1)), ap (λ t. t.0) p)

not_below : {K : Type 0} {R : K → K → Ordering} → IsTotalOrder R → (k l : K) → k ≡ l → T (is_lt (R k l)) → ⊥
not_below {R = R} o k l e h = subst (λ r. T (is_lt r)) (ap (R k) (sym e) ∙ tied_itself o k) h

same_gets : {K X : Type 0} {R : K → K → Ordering} (m n : FinMap R X) (q : K) → ((x : X) → get m q ≡ Some x → get n q ≡ Some x) → ((x : X) → get n q ≡ Some x → get m q ≡ Some x) → get m q ≡ get n q
same_gets m n q f g = elim (get m q) as (λ v. get m q ≡ v → v ≡ get n q) [
  | Some x ↦ λ h. sym (f x h)
  | None ↦ λ h. elim (get n q) as (λ v. get n q ≡ v → None ≡ v) [ None ↦ λ _. refl | Some x ↦ λ k. let z = g x k in cc ] refl
] refl

module _ {K X : Type 0} {R : K → K → Ordering} (o : IsTotalOrder R) (same : IsAntisymmetric R) where
  -- the entries of a map, as slots, differ
  below_at : (k : K) (es : List (K × X)) (i : ℕ) (e : K × X) → T (below_all R k es) → slot_at (map Some es) i ≡ Some e → T (is_lt (R k e.0))
  below_at k [] i e h is = cc
  below_at k (d ∷ es) zero e h is = let p : d ≡ e = cc in subst (λ (e : K × X). T (is_lt (R k e.0))) p (both_true _ _ h).0
  below_at k (d ∷ es) (suc i) e h is = below_at k es i e (both_true _ _ h).1 is

  pub sorted_differ : (es : List (K × X)) → T (is_sorted R es) → Differ (map Some es)
  sorted_differ [] h i j a b p q k = cc
  sorted_differ (e ∷ es) h zero zero a b p q k = refl
  sorted_differ (e ∷ es) h zero (suc j) a b p q k = let x : e ≡ a = cc in absurd (not_below o e.0 b.0 (ap (λ e. e.0) x ∙ k) (below_at e.0 es j b (both_true _ _ h).0 q))
  sorted_differ (e ∷ es) h (suc i) zero a b p q k = let x : e ≡ b = cc in absurd (not_below o e.0 a.0 (ap (λ e. e.0) x ∙ sym k) (below_at e.0 es i a (both_true _ _ h).0 p))
  sorted_differ (e ∷ es) h (suc i) (suc j) a b p q k = ap suc (sorted_differ es (both_true _ _ h).1 i j a b p q k)

  pub of_entries : (es : List (K × X)) → from_entries {R = R} es ≡ of_slots (map Some es)
  unfolding of_slots
  of_entries [] = refl
  of_entries (e ∷ es) = ap (λ m. insert m e.0 e.1) (of_entries es)

  pub made_again : (m : FinMap R X) → from_entries (entries m) ≡ m
  made_again m = same_map o same _ _ (λ q. get-from_entries o (entries m) q ∙ sym (get-entries m q))

  pub map_some : (f : K → K) (es : List (K × X)) → map Some (map (λ e. (f e.0, e.1)) es) ≡ map (rekey_slot f) (map Some es)
  map_some f [] = refl
  map_some f (e ∷ es) = ap (λ s. Some (f e.0, e.1) ∷ s) (map_some f es)

  -- a key that one list of slots has becomes one that the other has
  carry_key : (f : K → K) (s t : List (Option (K × X))) → of_slots {R = R} s ≡ of_slots t → Differ s → Differ (map (rekey_slot f) t) → (i : ℕ) (k : K) (x : X)
      → slot_at s i ≡ Some (k, x) → get (of_slots {R = R} (map (rekey_slot f) t)) (f k) ≡ Some x
  carry_key f s t e ds dt i k x at =
      let c = found o same t k x (ap (λ (m : FinMap R X). get m k) (sym e) ∙ hit o same s i k x ds at) in
      hit o same (map (rekey_slot f) t) c.0 (f k) x dt (slot_map f t c.0 ∙ ap (rekey_slot f) c.1)

  carry : (f : K → K) (s t : List (Option (K × X))) → of_slots {R = R} s ≡ of_slots t → Differ s → Differ (map (rekey_slot f) t) → (q : K) (x : X)
      → get (of_slots {R = R} (map (rekey_slot f) s)) q ≡ Some x → get (of_slots {R = R} (map (rekey_slot f) t)) q ≡ Some x
  carry f s t e ds dt q x h =
      let a = found o same (map (rekey_slot f) s) q x h in
      let b = rekeyed_from f (slot_at s a.0) q x (sym (slot_map f s a.0) ∙ a.1) in
      subst (λ (q : K). get (of_slots {R = R} (map (rekey_slot f) t)) q ≡ Some x) b.2 (carry_key f s t e ds dt a.0 b.0 x b.1)

  differ_rekeyed : (f : K → K) (s t : List (Option (K × X))) → of_slots {R = R} s ≡ of_slots t → Differ s → Differ (map (rekey_slot f) s) → Differ t → Differ (map (rekey_slot f) t)
  differ_rekeyed f s t e ds dfs dt i j a b p q k =
      let x = rekeyed_from f (slot_at t i) a.0 a.1 (sym (slot_map f t i) ∙ p) in
      let y = rekeyed_from f (slot_at t j) b.0 b.1 (sym (slot_map f t j) ∙ q) in
      let u = found o same s x.0 a.1 (ap (λ (m : FinMap R X). get m x.0) e ∙ hit o same t i x.0 a.1 dt x.1) in
      let v = found o same s y.0 b.1 (ap (λ (m : FinMap R X). get m y.0) e ∙ hit o same t j y.0 b.1 dt y.1) in
      let w : u.0 ≡ v.0 = dfs u.0 v.0 (f x.0, a.1) (f y.0, b.1) (slot_map f s u.0 ∙ ap (rekey_slot f) u.1) (slot_map f s v.0 ∙ ap (rekey_slot f) v.1) (x.2 ∙ k ∙ sym y.2) in
      let z : x.0 ≡ y.0 = one_key (x.0, a.1) (y.0, b.1) (sym u.1 ∙ ap (slot_at s) w ∙ v.1) in
      dt i j (x.0, a.1) (y.0, b.1) x.1 y.1 z
    where
      one_key : (a b : K × X) → Some a ≡ Some b → a.0 ≡ b.0
      one_key a b h = let e : a ≡ b = cc in ap (λ t. t.0) e

  -- to change the keys of the slots is to change those of the map
  pub rekeyed : (f : K → K) (s : List (Option (K × X))) → Differ s → Differ (map (rekey_slot f) s)
      → of_slots {R = R} (map (rekey_slot f) s) ≡ from_entries (map (λ e. (f e.0, e.1)) (entries (of_slots {R = R} s)))
  rekeyed f s ds dfs =
      let es = entries (of_slots {R = R} s) in
      let t = map Some es in
      let e : of_slots {R = R} s ≡ of_slots t = sym (made_again (of_slots s)) ∙ of_entries es in
      let dt = sorted_differ es (entries_sorted (of_slots {R = R} s)) in
      let dft = differ_rekeyed f s t e ds dfs dt in
      same_map o same _ _ (λ q. same_gets _ _ q (carry f s t e ds dft q) (carry f t s (sym e) dt dfs q))
      ∙ sym (of_entries (map (λ e. (f e.0, e.1)) es) ∙ ap of_slots (map_some f es))
