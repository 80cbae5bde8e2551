-- Entries in the order of their keys: each stands where as many come before it.
use Rattle.std.proofs.Common.{◌≡◌, ◌≢◌, ℕ, zero, suc, ◌+◌, ◌<◌, true, false, cond, List, [], ◌∷◌, inl, inr, Some, refl, sym, ap, subst, ◌∙◌, arith, get_or}
use Rattle.std.specs.Prelude.{slice_get, count_by}
use Rattle.std.specs.Ordering.{is_lt, is_eq, ordering_reverse, eq_by_cmp}
use Rattle.std.specs.declared.cmp.Ordering.{Ordering}
use Rattle.std.specs.declared.cmp.Ordering.TheVariants.{Less, Greater}
use Rattle.std.specs.Cmp.{IsTotalOrder, tied_itself}
use Rattle.std.specs.FinMap.{IsAntisymmetric}
use Rattle.std.specs.FinMap.Entries.{find, is_sorted, below_all}
use Rattle.std.proofs.lemmas.Bool.{cases_lt, cases_eq}
use Rattle.std.proofs.lemmas.List.Sums.{sum_by-cons}
use Rattle.std.proofs.lemmas.Option.{slice_get-get_or, slice_get_within}
use Rattle.nn_base.proofs.PlainLemmas.{some_is, is_equal, is_less}
use Rattle.nn_tree.proofs.FindLemmas.{first_so, second_so}

module _ {K : Type 0} {R : K → K → Ordering} (o : IsTotalOrder R) where
  back : (x y : K) → R x y ≡ Less → R y x ≡ Greater
  back x y l = o.antisymm y x ∙ ap ordering_reverse l

  not_both : (x y : K) → R x y ≡ Less → R y x ≢ Less
  not_both x y l h = let b = back x y l in cc

  not_itself : (x : K) → R x x ≢ Less
  not_itself x l = let t = tied_itself o x in cc

module _ {K X : Type 0} {R : K → K → Ordering} (o : IsTotalOrder R) where
  above_all : (x : K) (es : List (K × X)) (k : ℕ) (e : K × X) → below_all R x es ≡ true → slice_get es k ≡ Some e → R x e.0 ≡ Less
  above_all x [] k e h at = cc
  above_all x (f ∷ es) zero e h at = subst (λ (e : K × X). R x e.0 ≡ Less) (some_is f e at) (is_less _ (first_so _ _ h))
  above_all x (f ∷ es) (suc k) e h at = above_all x es k e (second_so (is_lt (R x f.0)) _ h) at

  pub rises : (es : List (K × X)) (i j : ℕ) (e f : K × X) → is_sorted R es ≡ true → slice_get es i ≡ Some e → slice_get es j ≡ Some f → i < j → R e.0 f.0 ≡ Less
  rises [] i j e f h at to lt = cc
  rises (x ∷ es) zero zero e f h at to lt = absurd (omega arith)
  rises (x ∷ es) zero (suc j) e f h at to lt = subst (λ (e : K × X). R e.0 f.0 ≡ Less) (some_is x e at) (above_all x.0 es j f (first_so _ _ h) to)
  rises (x ∷ es) (suc i) zero e f h at to lt = absurd (omega arith)
  rises (x ∷ es) (suc i) (suc j) e f h at to lt = rises es i j e f (second_so (below_all R x.0 es) _ h) at to (omega arith)

  none_before : (x : K) (es : List (K × X)) → below_all R x es ≡ true → count_by (λ e. is_lt (R e.0 x)) es ≡ 0
  none_before x [] h = refl
  none_before x (f ∷ es) h =
      sum_by-cons (λ e. cond (is_lt (R e.0 x)) 1 0) f es
      ∙ ap (λ r. cond (is_lt r) 1 0 + count_by (λ e. is_lt (R e.0 x)) es) (back o x f.0 (is_less _ (first_so _ _ h)))
      ∙ ap (λ n. 0 + n) (none_before x es (second_so (is_lt (R x f.0)) _ h))

  pub count_at : (es : List (K × X)) (k : ℕ) (e : K × X) → is_sorted R es ≡ true → slice_get es k ≡ Some e → count_by (λ f. is_lt (R f.0 e.0)) es ≡ k
  count_at [] k e h at = cc
  count_at (x ∷ es) zero e h at =
      let P : K × X → Type 0 = λ e. count_by (λ f. is_lt (R f.0 e.0)) (x ∷ es) ≡ 0 in
      subst P (some_is x e at) (
      sum_by-cons (λ f. cond (is_lt (R f.0 x.0)) 1 0) x es
      ∙ ap (λ r. cond (is_lt r) 1 0 + count_by (λ f. is_lt (R f.0 x.0)) es) (tied_itself o x.0)
      ∙ ap (λ n. 0 + n) (none_before x.0 es (first_so _ _ h))
      )
  count_at (x ∷ es) (suc k) e h at =
      let more : 1 + k ≡ suc k = omega arith in
      sum_by-cons (λ f. cond (is_lt (R f.0 e.0)) 1 0) x es
      ∙ ap (λ r. cond (is_lt r) 1 0 + count_by (λ f. is_lt (R f.0 e.0)) es) (above_all x.0 es k e (first_so _ _ h) at)
      ∙ ap (λ n. 1 + n) (count_at es k e (second_so (below_all R x.0 es) _ h) at)
      ∙ more

  pub find_at : (es : List (K × X)) (k : ℕ) (e : K × X) → is_sorted R es ≡ true → slice_get es k ≡ Some e → find R e.0 es ≡ Some e.1
  find_at [] k e h at = cc
  find_at (x ∷ es) zero e h at =
      let P : K × X → Type 0 = λ e. find R e.0 (x ∷ es) ≡ Some e.1 in
      subst P (some_is x e at) (ap (λ r. cond (is_eq r) (Some x.1) (find R x.0 es)) (tied_itself o x.0))
  find_at (x ∷ es) (suc k) e h at =
      ap (λ r. cond (is_eq r) (Some x.1) (find R e.0 es)) (back o x.0 e.0 (above_all x.0 es k e (first_so _ _ h) at))
      ∙ find_at es k e (second_so (below_all R x.0 es) _ h) at

  pub found_at : IsAntisymmetric R → (q : K) (v : X) (es : List (K × X)) → find R q es ≡ Some v → (k : ℕ) × (slice_get es k ≡ Some (q, v))
  found_at same q v [] h = cc
  found_at same q v (x ∷ es) h =
      elim (eq_by_cmp R q x.0) as (λ b. eq_by_cmp R q x.0 ≡ b → cond b (Some x.1) (find R q es) ≡ Some v → (k : ℕ) × (slice_get (x ∷ es) k ≡ Some (q, v))) [
        | true ↦ λ t h. let key = same q x.0 (is_equal _ t) in let value = some_is x.1 v h in (0, λ i. Some (sym key i, value i))
        | false ↦ λ t h. let k = found_at same q v es h in (suc k.0, k.1)
      ] refl h

  -- the least entry above the k-th is the one behind it
  pub next_place : (es : List (K × X)) (k j : ℕ) (e f : K × X) → is_sorted R es ≡ true → slice_get es k ≡ Some e → slice_get es j ≡ Some f → R e.0 f.0 ≡ Less
      → ((i : ℕ) (g : K × X) → slice_get es i ≡ Some g → R e.0 g.0 ≡ Less → R g.0 f.0 ≢ Less) → j ≡ k + 1
  next_place es k j e f h at to above least =
      elim (cases_eq j (k + 1)) as (λ _. j ≡ k + 1) [
        | inl is ↦ is
        | inr other ↦ elim (cases_lt j (k + 1)) as (λ _. j ≡ k + 1) [
          | inl lt ↦ elim (cases_eq j k) as (λ _. j ≡ k + 1) [
            | inl is ↦ let one = some_is e f (sym at ∙ ap (slice_get es) (sym is) ∙ to) in absurd (not_itself o e.0 (ap (λ (f : K × X). R e.0 f.0) one ∙ above))
            | inr less ↦ absurd (not_both o e.0 f.0 above (rises es j k f e h to at (omega arith)))
          ]
          | inr le ↦
              let within = slice_get_within es j f to in
              let g = get_or es (k + 1) e in
              let there : slice_get es (k + 1) ≡ Some g = slice_get-get_or es (k + 1) e (omega arith) in
              absurd (least (k + 1) g there (rises es k (k + 1) e g h at there (omega arith)) (rises es (k + 1) j g f h there to (omega arith)))
        ]
      ]
