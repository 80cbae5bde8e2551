-- What holds of all entries of a map, and how many have a mark, told by looking keys up.
use Rattle.std.proofs.Common.{◌≡◌, ℕ, ◌<◌, ◌≤◌, Bool, true, false, cond, T, List, [], ◌∷◌, ◌&&◌, Some, None, refl, sym, ap, subst, ◌∙◌, arith}
use Rattle.std.specs.Prelude.{sum_by}
use Rattle.std.specs.List.{list_all}
use Rattle.std.specs.declared.cmp.Ordering.{Ordering}
use Rattle.std.specs.declared.cmp.Ordering.TheVariants.{Less, Equal, Greater}
use Rattle.std.specs.Ordering.{is_lt, is_eq}
use Rattle.std.specs.Cmp.{IsTotalOrder, tied_itself}
use Rattle.std.specs.FinMap.{FinMap, get, entries, entries_sorted, get-entries, find, is_sorted, IsAntisymmetric}
use Rattle.std.specs.FinMap.Entries.{below_all}
use Rattle.std.proofs.lemmas.List.Sums.{sum_by-cons}
use Rattle.nn_base.proofs.PlainLemmas.{both_true, and_false}
use Rattle.nn_tree.specs.Totals.{total}

marked : (b : Bool) → b ≡ true → ◌≡◌ {A = ℕ} (cond b 1 0) 1
marked true h = refl
marked false h = cc

unmarked : (b : Bool) → b ≡ false → ◌≡◌ {A = ℕ} (cond b 1 0) 0
unmarked true h = cc
unmarked false h = refl

mark_le : (a b : Bool) → (a ≡ true → b ≡ true) → cond a 1 0 ≤ cond b 1 0
mark_le true true h = omega arith
mark_le true false h = absurd (let z = h refl in cc)
mark_le false b h = omega arith

module _ {K X : Type 0} {R : K → K → Ordering} (o : IsTotalOrder R) (same : IsAntisymmetric R) where
  -- a key below all others is none of them
  not_among : (k : K) (es : List (K × X)) → T (below_all R k es) → find R k es ≡ None
  not_among k [] h = refl
  not_among k (e ∷ es) h = by (R k e.0) (both_true _ _ h).0 ∙ not_among k es (both_true _ _ h).1
    where
      by : (r : Ordering) → T (is_lt r) → cond (is_eq r) (Some e.1) (find R k es) ≡ find R k es
      by Less t = refl
      by Equal t = absurd t
      by Greater t = absurd t

  -- what is found in the rest is found in the whole
  found_after : (e : K × X) (es : List (K × X)) (q : K) (x : X) → T (below_all R e.0 es) → find R q es ≡ Some x → find R q (e ∷ es) ≡ Some x
  found_after e es q x h is = by (R q e.0) refl
    where
      by : (r : Ordering) → R q e.0 ≡ r → cond (is_eq r) (Some e.1) (find R q es) ≡ Some x
      by Less t = is
      by Greater t = is
      by Equal t =
          let none = subst (λ k. find R k es ≡ None) (sym (same q e.0 t)) (not_among e.0 es h) in
          let z : None ≡ Some x = sym none ∙ is in
          cc

  all_found : (p : K × X → Bool) (es : List (K × X)) → T (is_sorted R es) → ((q : K) (x : X) → find R q es ≡ Some x → p (q, x) ≡ true) → list_all p es ≡ true
  all_found p [] h each = refl
  all_found p (e ∷ es) h each =
      let first : p e ≡ true = each e.0 e.1 (ap (λ r. cond (is_eq r) (Some e.1) (find R e.0 es)) (tied_itself o e.0)) in
      (λ i. first i && all_found p es (both_true _ _ h).1 (λ q x is. each q x (found_after e es q x (both_true _ _ h).0 is)) i)

  pub all_by_get : (p : K × X → Bool) (m : FinMap R X) → ((q : K) (x : X) → get m q ≡ Some x → p (q, x) ≡ true) → list_all p (entries m) ≡ true
  all_by_get p m each = all_found p (entries m) (entries_sorted m) (λ q x is. each q x (get-entries m q ∙ is))

  one_fails : (p : K × X → Bool) (es : List (K × X)) (q : K) (x : X) → find R q es ≡ Some x → p (q, x) ≡ false → list_all p es ≡ false
  one_fails p [] q x is fails = cc
  one_fails p (e ∷ es) q x is fails = elim (R q e.0) as (λ r. R q e.0 ≡ r → cond (is_eq r) (Some e.1) (find R q es) ≡ Some x → (p e && list_all p es) ≡ false) [
    | Less ↦ λ t is. ap (λ b. p e && b) (one_fails p es q x is fails) ∙ and_false (p e) false refl
    | Greater ↦ λ t is. ap (λ b. p e && b) (one_fails p es q x is fails) ∙ and_false (p e) false refl
    | Equal ↦ λ t is.
        let key : q ≡ e.0 = same q e.0 t in
        let value : x ≡ e.1 = cc in
        let pair : ◌≡◌ {A = K × X} (q, x) e = λ i. (key i, value i) in
        ap (λ b. b && list_all p es) (ap p (sym pair) ∙ fails)
  ] refl is

  pub not_all_by_get : (p : K × X → Bool) (m : FinMap R X) (q : K) (x : X) → get m q ≡ Some x → p (q, x) ≡ false → list_all p (entries m) ≡ false
  not_all_by_get p m q x is fails = one_fails p (entries m) q x (sym (get-entries m q) ∙ is) fails

  -- ---- how many entries have a mark

  no_more : (f k : K → Bool) → ((q : K) → k q ≡ true → f q ≡ true) → (es : List (K × X)) → sum_by (λ e. cond (k e.0) 1 0) es ≤ sum_by (λ e. cond (f e.0) 1 0) es
  no_more f k less [] = omega arith
  no_more f k less (e ∷ es) =
      let rest = no_more f k less es in
      let here = mark_le (k e.0) (f e.0) (less e.0) in
      let a = sum_by-cons (λ (e : K × X). cond (k e.0) 1 0) e es in
      let b = sum_by-cons (λ (e : K × X). cond (f e.0) 1 0) e es in
      omega arith

  one_less : (f k : K → Bool) → ((q : K) → k q ≡ true → f q ≡ true) → (q : K) (x : X) → f q ≡ true → k q ≡ false → (es : List (K × X)) → find R q es ≡ Some x
      → sum_by (λ e. cond (k e.0) 1 0) es < sum_by (λ e. cond (f e.0) 1 0) es
  one_less f k less q x on off [] is = cc
  one_less f k less q x on off (e ∷ es) is =
      let a = sum_by-cons (λ (e : K × X). cond (k e.0) 1 0) e es in
      let b = sum_by-cons (λ (e : K × X). cond (f e.0) 1 0) e es in
      let here = mark_le (k e.0) (f e.0) (less e.0) in
      elim (R q e.0) as (λ r. R q e.0 ≡ r → cond (is_eq r) (Some e.1) (find R q es) ≡ Some x → sum_by (λ e. cond (k e.0) 1 0) (e ∷ es) < sum_by (λ e. cond (f e.0) 1 0) (e ∷ es)) [
        | Less ↦ λ t is. (let rest = one_less f k less q x on off es is in omega arith)
        | Greater ↦ λ t is. (let rest = one_less f k less q x on off es is in omega arith)
        | Equal ↦ λ t is.
            let rest = no_more f k less es in
            let one : ◌≡◌ {A = ℕ} (cond (f e.0) 1 0) 1 = marked (f e.0) (ap f (sym (same q e.0 t)) ∙ on) in
            let zero_ : ◌≡◌ {A = ℕ} (cond (k e.0) 1 0) 0 = unmarked (k e.0) (ap k (sym (same q e.0 t)) ∙ off) in
            omega (arith, one, zero_, rest, a, b)
      ] refl is

  -- fewer have a mark where one that is there loses it
  pub fewer : (f k : K → Bool) (m : FinMap R X) (q : K) (x : X) → ((q : K) → k q ≡ true → f q ≡ true) → get m q ≡ Some x → f q ≡ true → k q ≡ false → total (λ q x. cond (k q) 1 0) m < total (λ q x. cond (f q) 1 0) m
  fewer f k m q x less is on off = one_less f k less q x on off (entries m) (sym (get-entries m q) ∙ is)
