-- Sums and keys of a map under the changes of a tree.
use Rattle.std.proofs.Common.{◌≡◌, ℕ, ◌+◌, Bool, true, false, cond, List, [], ◌∷◌, map, Option, Some, None, refl, sym, ap, ◌∙◌}
use Rattle.std.specs.Prelude.{sum_by}
use Rattle.std.specs.declared.cmp.Ordering.{Ordering}
use Rattle.std.specs.Ordering.{eq_by_cmp}
use Rattle.std.specs.Cmp.{IsTotalOrder}
use Rattle.std.specs.FinMap.{FinMap, get, insert, empty, retain_keys, get-insert, get-empty, get-retain_keys, IsAntisymmetric, same_map}
use Rattle.std.proofs.lemmas.List.Sums.{sum_by-cons}
use Rattle.nn_base.proofs.PlainLemmas.{is_equal}
use Rattle.nn_tree.specs.Totals.{total}
use Rattle.nn_tree.specs.Slots.{of_slots, keep_slot, rekey_slot, slot_share, Differ}
use Rattle.nn_tree.proofs.SlotsLemmas.{total-of_slots}

module _ {K X : Type 0} {R : K → K → Ordering} (o : IsTotalOrder R) (same : IsAntisymmetric R) where
  get_kept : (m : FinMap R X) (p : K → Bool) (q : K) → get (retain_keys m p) q ≡ cond (p q) (get m q) None
  get_kept m p q = get-retain_keys m p q (λ x t. ap p (sym (same q x t)))

  keep_new : (m : FinMap R X) (p : K → Bool) (k : K) (v : X) (b : Bool) → p k ≡ b → cond b (insert (retain_keys m p) k v) (retain_keys m p) ≡ retain_keys (insert m k v) p
  keep_new m p k v true h = same_map o same _ _ (λ q.
      get-insert o _ k v q ∙ ap (cond (eq_by_cmp R q k) (Some v)) (get_kept m p q)
      ∙ by q (eq_by_cmp R q k) refl ∙ sym (get_kept (insert m k v) p q ∙ ap (λ g. cond (p q) g None) (get-insert o m k v q)))
    where
      by : (q : K) (b : Bool) → eq_by_cmp R q k ≡ b → cond b (Some v) (cond (p q) (get m q) None) ≡ cond (p q) (cond b (Some v) (get m q)) None
      by q true e = let t : p q ≡ true = ap p (same q k (is_equal _ e)) ∙ h in ap (λ b. cond b (Some v) None) (sym t)
      by q false e = refl
  keep_new m p k v false h = same_map o same _ _ (λ q.
      get_kept m p q ∙ by q (eq_by_cmp R q k) refl ∙ sym (get_kept (insert m k v) p q ∙ ap (λ g. cond (p q) g None) (get-insert o m k v q)))
    where
      by : (q : K) (b : Bool) → eq_by_cmp R q k ≡ b → cond (p q) (get m q) None ≡ cond (p q) (cond b (Some v) (get m q)) None
      by q true e = let t : p q ≡ false = ap p (same q k (is_equal _ e)) ∙ h in ap (λ b. cond b (get m q) None) t ∙ sym (ap (λ b. cond b (Some v) None) t)
      by q false e = refl

  -- to empty slots by their keys is to keep the other keys
  pub slots_kept : (p : K → Bool) (s : List (Option (K × X))) → of_slots {R = R} (map (keep_slot p) s) ≡ retain_keys (of_slots s) p
  unfolding of_slots
  slots_kept p [] = same_map o same _ _ (λ q. get-empty R q ∙ sym (get_kept empty p q ∙ ap (λ g. cond (p q) g None) (get-empty R q) ∙ none (p q)))
    where
      none : (b : Bool) → cond {A = Option X} b None None ≡ None
      none true = refl
      none false = refl
  slots_kept p (None ∷ s) = slots_kept p s
  slots_kept p (Some e ∷ s) =
      elim (p e.0) as (λ b. of_slots {R = R} (cond b (Some e) None ∷ map (keep_slot p) s) ≡ cond b (insert (of_slots (map (keep_slot p) s)) e.0 e.1) (of_slots (map (keep_slot p) s))) [ true ↦ refl | false ↦ refl ]
      ∙ ap (λ m. cond (p e.0) (insert m e.0 e.1) m) (slots_kept p s)
      ∙ keep_new (of_slots s) p e.0 e.1 (p e.0) refl

  shares_rekeyed : (g : K → X → ℕ) (f : K → K) (s : List (Option (K × X))) → sum_by (slot_share g) (map (rekey_slot f) s) ≡ sum_by (slot_share (λ k x. g (f k) x)) s
  shares_rekeyed g f [] = refl
  shares_rekeyed g f (v ∷ s) =
      sum_by-cons (slot_share g) (rekey_slot f v) (map (rekey_slot f) s)
      ∙ ap (λ n. n + sum_by (slot_share g) (map (rekey_slot f) s)) (one v) ∙ ap (λ n. slot_share (λ k x. g (f k) x) v + n) (shares_rekeyed g f s)
      ∙ sym (sum_by-cons (slot_share (λ k x. g (f k) x)) v s)
    where
      one : (v : Option (K × X)) → slot_share g (rekey_slot f v) ≡ slot_share (λ k x. g (f k) x) v
      one None = refl
      one (Some e) = refl

  -- a sum over moved keys is the sum of what the keys become
  pub total-rekeyed : (g : K → X → ℕ) (f : K → K) (s : List (Option (K × X))) → Differ s → Differ (map (rekey_slot f) s) → total g (of_slots {R = R} (map (rekey_slot f) s)) ≡ total (λ k x. g (f k) x) (of_slots {R = R} s)
  total-rekeyed g f s d e = total-of_slots o same g (map (rekey_slot f) s) e ∙ shares_rekeyed g f s ∙ sym (total-of_slots o same (λ k x. g (f k) x) s d)
