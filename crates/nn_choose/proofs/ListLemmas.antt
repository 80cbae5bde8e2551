-- A list that grows from directory to directory.
use Rattle.std.proofs.Common.{◌≡◌, inl, inr, ℕ, ◌+◌, ◌<◌, List, [], ◌∷◌, ◌++◌, length, sym, subst, arith, length-append}
use Rattle.std.specs.Prelude.{slice_index_or}
use Rattle.std.proofs.lemmas.Bool.Decides.{eqb_tells}
use Rattle.std.proofs.lemmas.List.{get_or_append_left, get_or-append-add}

module _ {A : Type 0} (P : ℕ → A → Type 0) (xs ys : List A) (x : A) (k : ℕ) where
  pub each_more : length xs ≡ k → ys ≡ xs ++ x ∷ [] → ((i : ℕ) (d : A) → i < k → P i (slice_index_or xs i d)) → P k x → (i : ℕ) (d : A) → i < k + 1 → P i (slice_index_or ys i d)
  each_more long is below here i d lt = subst (λ (zs : List A). P i (slice_index_or zs i d)) (sym is) (elim (eqb_tells i k) [
    | inl same ↦ subst (P i) (sym (last i same.1)) (subst (λ (n : ℕ). P n x) (sym same.1) here)
    | inr differs ↦ subst (P i) (sym (get_or_append_left xs (x ∷ []) d i (omega (arith, lt, differs.1, long)))) (below i d (omega (arith, lt, differs.1)))
  ])
    where
      last : (n : ℕ) → n ≡ k → slice_index_or (xs ++ x ∷ []) n d ≡ x
      last n same = subst (λ (m : ℕ). slice_index_or (xs ++ x ∷ []) m d ≡ x) (omega (arith, long, same)) (get_or-append-add xs (x ∷ []) 0 d)

  pub longer : length xs ≡ k → ys ≡ xs ++ x ∷ [] → length ys ≡ k + 1
  longer long is = subst (λ (zs : List A). length zs ≡ k + 1) (sym is) (omega (arith, long, length-append xs (x ∷ [])))
