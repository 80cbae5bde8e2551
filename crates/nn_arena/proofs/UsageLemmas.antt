-- How usages change with the map.
use Rattle.std.proofs.Common.{◌≡◌, ℕ, zero, suc, ◌+◌, Bool, true, false, not, cond, List, [], ◌∷◌, map, Option, Some, None, refl, sym, ap, subst, ◌∙◌, arith}
use Rattle.std.specs.Prelude.{sum_by}
use Rattle.std.specs.FinMap.{get, entries}
use Rattle.std.proofs.lemmas.List.Sums.{sum_by-cons}
use Rattle.nn_base.specs.Paths.{Names, path_cmp, is_under}
use Rattle.nn_tree.specs.declared.node.Node.{Node}
use Rattle.nn_tree.specs.Totals.{total}
use Rattle.nn_tree.specs.Namespace.{Nodes}
use Rattle.nn_tree.specs.Slots.{of_slots, slot_at, slot_share, rekey_slot, Differ}
use Rattle.nn_tree.specs.Changes.{moved, cut}
use Rattle.nn_tree.specs.Links.{Links, slots, nodes_of, IsTree}
use Rattle.nn_tree.proofs.LinksLemmas.{paths_total, paths_exact, differ_slots}
use Rattle.nn_tree.proofs.SlotsLemmas.{hit, total-of_slots}
use Rattle.nn_tree.proofs.TotalsLemmas.{total-retain_keys}
use Rattle.nn_tree.proofs.KeptLemmas.{total-rekeyed}
use Rattle.nn_tree.proofs.PrefixLemmas.{moved_in, moved_out}
use Rattle.nn_arena.proofs.UnderLemmas.{under_before, under_before_of, under_moved_in, absent_under}

-- what a node adds to the usage of p, by a weight: one for the names, its bytes for the space
abbrev pub share : (Node → ℕ) → Names → Names → Node → ℕ
share w p q node = cond (is_under p q) (w node) 0

-- ---- sums

sum_add : {A : Type 0} (f g h k : A → ℕ) → ((a : A) → f a + g a ≡ h a + k a) → (xs : List A) → sum_by f xs + sum_by g xs ≡ sum_by h xs + sum_by k xs
sum_add f g h k same [] = refl
sum_add f g h k same (x ∷ xs) = omega (arith, same x, sum_add f g h k same xs, sum_by-cons f x xs, sum_by-cons g x xs, sum_by-cons h x xs, sum_by-cons k x xs)

sum_none : {A : Type 0} (xs : List A) → sum_by (λ a. 0) xs ≡ 0
sum_none [] = refl
sum_none (x ∷ xs) = omega (arith, sum_by-cons (λ a. 0) x xs, sum_none xs)

pub total_none : (m : Nodes) → total (λ q x. 0) m ≡ 0
total_none m = sum_none (entries m)

pub total_if : (b : Bool) (f : Names → Node → ℕ) (m : Nodes) → total (λ q x. cond b (f q x) 0) m ≡ cond b (total f m) 0
total_if true f m = refl
total_if false f m = total_none m

module _ {K X : Type 0} (f g h k : K → X → ℕ) where
  one_slot : (o : Option (K × X)) → ((q : K) (x : X) → o ≡ Some (q, x) → f q x + g q x ≡ h q x + k q x) → slot_share f o + slot_share g o ≡ slot_share h o + slot_share k o
  one_slot None same = refl
  one_slot (Some e) same = same e.0 e.1 refl

  sum_slots : (s : List (Option (K × X))) → ((i : ℕ) (q : K) (x : X) → slot_at s i ≡ Some (q, x) → f q x + g q x ≡ h q x + k q x)
      → sum_by (slot_share f) s + sum_by (slot_share g) s ≡ sum_by (slot_share h) s + sum_by (slot_share k) s
  sum_slots [] same = refl
  sum_slots (o ∷ s) same = omega (arith, one_slot o (same zero), sum_slots s (λ i. same (suc i)), sum_by-cons (slot_share f) o s, sum_by-cons (slot_share g) o s, sum_by-cons (slot_share h) o s, sum_by-cons (slot_share k) o s)

-- sums that are alike at each node of a tree
pub total_add : (t : Links) → IsTree t → (f g h k : Names → Node → ℕ) → ((q : Names) (x : Node) → get (nodes_of t) q ≡ Some x → f q x + g q x ≡ h q x + k q x)
    → total f (nodes_of t) + total g (nodes_of t) ≡ total h (nodes_of t) + total k (nodes_of t)
total_add t tree f g h k same =
    let d = differ_slots t tree in
    let s = sum_slots f g h k (slots t) (λ i q x at. same q x (hit paths_total paths_exact (slots t) i q x d at)) in
    let a = total-of_slots paths_total paths_exact f (slots t) d in
    let b = total-of_slots paths_total paths_exact g (slots t) d in
    let c = total-of_slots paths_total paths_exact h (slots t) d in
    let e = total-of_slots paths_total paths_exact k (slots t) d in
    (λ i. a i + b i) ∙ s ∙ sym (λ i. c i + e i)

present_out : (g : Links) (d q : Names) (x : Node) → IsTree g → get (nodes_of g) d ≡ None → get (nodes_of g) q ≡ Some x → is_under d q ≡ false
present_out g d q x t none is = elim (is_under d q) as (λ b. is_under d q ≡ b → b ≡ false) [
  | true ↦ λ inside. (let z = absent_under g d q t none inside in cc)
  | false ↦ λ _. refl
] refl

module _ (w : Node → ℕ) where
  -- ---- a path that isn't there has nothing below it

  pub nothing_below : (g : Links) (d : Names) → IsTree g → get (nodes_of g) d ≡ None → total (share w d) (nodes_of g) ≡ 0
  nothing_below g d t none =
      let nil : total (λ (q : Names) (x : Node). 0) (nodes_of g) ≡ 0 = total_none (nodes_of g) in
      let s = total_add g t (share w d) (λ q x. 0) (λ q x. 0) (λ q x. 0) (λ q x is. ap (λ b. cond b (w x) 0 + 0) (present_out g d q x t none is)) in
      omega (arith, nil, s)

  -- ---- p is cut: what is above it loses what was there

  pub total_cut : (m : Nodes) (p q : Names) → is_under p q ≡ false → total (share w q) (cut p m) + cond (is_under q p) (total (share w p) m) 0 ≡ total (share w q) m
  total_cut m p q out =
      let kept = total-retain_keys path_cmp paths_total paths_exact (share w q) m (λ k. not (is_under p k)) in
      let gone = total_if (is_under q p) (share w p) m in
      let nil : total (λ (q : Names) (x : Node). 0) m ≡ 0 = total_none m in
      let s = sum_add (λ (e : Names × Node). cond (not (is_under p e.0)) (share w q e.0 e.1) 0) (λ e. cond (is_under q p) (share w p e.0 e.1) 0) (λ e. share w q e.0 e.1) (λ e. 0) (λ e. one e.0 e.1 (is_under p e.0) refl) (entries m) in
      omega (arith, kept, gone, nil, s)
    where
      nothing : (b : Bool) → ◌≡◌ {A = ℕ} (cond b 0 0) 0
      nothing true = refl
      nothing false = refl

      one : (k : Names) (x : Node) (b : Bool) → is_under p k ≡ b → cond (not b) (share w q k x) 0 + cond (is_under q p) (cond b (w x) 0) 0 ≡ share w q k x + 0
      one k x true e = let h : share w q k x ≡ cond (is_under q p) (w x) 0 = ap (λ b. cond b (w x) 0) (under_before_of q p k out e) in omega (arith, h)
      one k x false e = omega (arith, nothing (is_under q p))

  -- ---- s moves to d, where nothing stands

  module _ (g h : Links) (s d : Names) (t : IsTree g) (u : IsTree h) (is : slots h ≡ map (rekey_slot (moved s d)) (slots g)) (none : get (nodes_of g) d ≡ None) where
    rekeyed_total : (f : Names → Node → ℕ) → total f (nodes_of h) ≡ total (λ k x. f (moved s d k) x) (nodes_of g)
    rekeyed_total f =
        ap (λ (z : List (Option (Names × Node))). total f (of_slots {R = path_cmp} z)) is
        ∙ total-rekeyed paths_total paths_exact f (moved s d) (slots g) (differ_slots g t) (subst (λ (z : List (Option (Names × Node))). Differ z) is (differ_slots h u))

    -- what moves keeps its usage
    pub total_moved_in : (r : Names) → is_under s r ≡ true → total (share w (moved s d r)) (nodes_of h) ≡ total (share w r) (nodes_of g)
    total_moved_in r inside =
        let a = rekeyed_total (share w (moved s d r)) in
        let nil : total (λ (q : Names) (x : Node). 0) (nodes_of g) ≡ 0 = total_none (nodes_of g) in
        let b = total_add g t (λ k x. share w (moved s d r) (moved s d k) x) (λ q x. 0) (share w r) (λ q x. 0)
        (λ k x there. ap (λ b. cond b (w x) 0 + 0) (under_moved_in s d r k inside (present_out g d k x t none there))) in
        omega (arith, a, nil, b)

    -- what stays loses it where it was above the old place, and gains it where it is above the new one
    pub total_moved_out : (r : Names) (node : Node) → get (nodes_of g) r ≡ Some node → is_under s r ≡ false
        → total (share w r) (nodes_of h) + cond (is_under r s) (total (share w s) (nodes_of g)) 0 ≡ total (share w r) (nodes_of g) + cond (is_under r d) (total (share w s) (nodes_of g)) 0
    total_moved_out r node there out =
        let a = rekeyed_total (share w r) in
        let b = total_if (is_under r s) (share w s) (nodes_of g) in
        let c = total_if (is_under r d) (share w s) (nodes_of g) in
        let e = total_add g t (λ k x. share w r (moved s d k) x) (λ k x. cond (is_under r s) (share w s k x) 0) (share w r) (λ k x. cond (is_under r d) (share w s k x) 0) (λ k x _. one k x (is_under s k) refl) in
        omega (arith, a, b, c, e)
      where
        new : is_under d r ≡ false
        new = present_out g d r node t none there

        nothing : (b : Bool) → ◌≡◌ {A = ℕ} (cond b 0 0) 0
        nothing true = refl
        nothing false = refl

        one : (k : Names) (x : Node) (b : Bool) → is_under s k ≡ b → share w r (moved s d k) x + cond (is_under r s) (cond b (w x) 0) 0 ≡ share w r k x + cond (is_under r d) (cond b (w x) 0) 0
        one k x true e =
            let p : share w r (moved s d k) x ≡ cond (is_under r d) (w x) 0 = ap (λ b. cond b (w x) 0) (ap (is_under r) (moved_in s d k e) ∙ under_before r d _ new) in
            let q : share w r k x ≡ cond (is_under r s) (w x) 0 = ap (λ b. cond b (w x) 0) (under_before_of r s k out e) in
            omega (arith, p, q)
        one k x false e =
            let p : share w r (moved s d k) x ≡ share w r k x = ap (λ k. share w r k x) (moved_out s d k e) in
            omega (arith, p, nothing (is_under r s), nothing (is_under r d))
