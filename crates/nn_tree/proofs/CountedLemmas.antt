-- How often a number stands in a list: at most once where all are apart, and never above their last.
use Rattle.std.proofs.Common.{◌≡◌, ℕ, ◌+◌, ◌<◌, ◌≤◌, Bool, true, false, cond, eqb, List, [], ◌∷◌, ◌++◌, ◌⊎◌, inl, inr, refl, sym, ap, ◌∙◌, arith}
use Rattle.std.specs.Prelude.{All, count_by, sum_by}
use Rattle.std.specs.List.{IsDistinct, AllByRecursion, flat_map}
use Rattle.std.proofs.lemmas.Bool.{cases_lt, eqb-true, eqb-false, eq-eqb, ne_eqb}
use Rattle.std.proofs.lemmas.List.Sums.{sum_by-cons, sum_by-append}
use Rattle.std.proofs.lemmas.List.Concat.{flat_map-cons}
use Rattle.std.proofs.lemmas.List.Elements.{All-nil, All-cons, All-head, All-tail}

abbrev pub times : ℕ → List ℕ → ℕ
times id xs = count_by (eqb id) xs

abbrev pub one_if : Bool → ℕ
one_if b = cond b 1 0

pub times-cons : (id x : ℕ) (xs : List ℕ) → times id (x ∷ xs) ≡ one_if (eqb id x) + times id xs
times-cons id x xs = sum_by-cons (λ y. cond (eqb id y) 1 0) x xs

pub times-append : (id : ℕ) (xs ys : List ℕ) → times id (xs ++ ys) ≡ times id xs + times id ys
times-append id xs ys = sum_by-append (λ y. cond (eqb id y) 1 0) xs ys

pub times-joined : {A : Type 0} (id : ℕ) (f : A → List ℕ) (xs : List A) → times id (flat_map f xs) ≡ sum_by (λ x. times id (f x)) xs
times-joined id f [] = refl
times-joined id f (x ∷ xs) =
    ap (times id) (flat_map-cons f x xs) ∙ times-append id (f x) (flat_map f xs)
    ∙ ap (λ n. times id (f x) + n) (times-joined id f xs) ∙ sym (sum_by-cons (λ x. times id (f x)) x xs)

pub times_here : (id x : ℕ) → id ≡ x → one_if (eqb id x) ≡ 1
times_here id x is = ap one_if (eq-eqb id x is)

pub times_elsewhere : (id x : ℕ) → (id ≡ x → ⊥) → one_if (eqb id x) ≡ 0
times_elsewhere id x other = ap one_if (ne_eqb id x other)

-- ---- apart

none_so : (x : ℕ) (xs : List ℕ) → times x xs ≡ 0 → AllByRecursion (λ y. eqb x y ≡ false) xs
none_so x [] none = tt
none_so x (y ∷ xs) none = (
  ne_eqb x y (λ is. (let a = times-cons x y xs in let b = times_here x y is in omega arith)),
  none_so x xs (let a = times-cons x y xs in omega arith),
)

none_back : (x : ℕ) (xs : List ℕ) → AllByRecursion (λ y. eqb x y ≡ false) xs → times x xs ≡ 0
none_back x [] apart = refl
none_back x (y ∷ xs) apart =
    let a = times-cons x y xs in
    let b = times_elsewhere x y (eqb-false x y apart.0) in
    let c = none_back x xs apart.1 in
    omega arith

pub distinct_so : (xs : List ℕ) → ((id : ℕ) → times id xs ≤ 1) → IsDistinct eqb xs
unfolding IsDistinct
distinct_so [] once = tt
distinct_so (x ∷ xs) once = (
  none_so x xs (let a = times-cons x x xs in let b = times_here x x refl in let c = once x in omega arith),
  distinct_so xs (λ id. let a = times-cons id x xs in let c = once id in omega arith),
)

at_most_once : (id x : ℕ) (xs : List ℕ) → times x xs ≡ 0 → times id xs ≤ 1 → times id (x ∷ xs) ≤ 1
at_most_once id x xs none few = by (eqb id x) refl
  where
    by : (b : Bool) → eqb id x ≡ b → times id (x ∷ xs) ≤ 1
    by true is =
        let same = eqb-true id x is in
        let a = times-cons id x xs in
        let b = times_here id x same in
        let c = ap (λ n. times n xs) same ∙ none in
        omega arith
    by false is =
        let a = times-cons id x xs in
        let b = times_elsewhere id x (eqb-false id x is) in
        omega arith

pub distinct_back : (xs : List ℕ) → IsDistinct eqb xs → (id : ℕ) → times id xs ≤ 1
unfolding IsDistinct
distinct_back [] apart id = omega arith
distinct_back (x ∷ xs) apart id = at_most_once id x xs (none_back x xs apart.0) (distinct_back xs apart.1 id)

-- ---- within

pub within_so : (last : ℕ) (xs : List ℕ) → ((id : ℕ) → last < id → times id xs ≡ 0) → All (λ id. id ≤ last) xs
within_so last [] none = All-nil (λ id. id ≤ last)
within_so last (x ∷ xs) none = All-cons (λ id. id ≤ last) x xs (first (cases_lt last x)) (within_so last xs (λ id above. let a = times-cons id x xs in let b = none id above in omega arith))
  where
    first : ◌⊎◌ (last < x) (x ≤ last) → x ≤ last
    first (inl above) = let a = times-cons x x xs in let b = times_here x x refl in let c = none x above in absurd (omega arith)
    first (inr le) = le

pub within_back : (last : ℕ) (xs : List ℕ) → All (λ id. id ≤ last) xs → (id : ℕ) → last < id → times id xs ≡ 0
within_back last [] all id above = refl
within_back last (x ∷ xs) all id above =
    let first = All-head (λ id. id ≤ last) x xs all in
    let a = times-cons id x xs in
    let b = times_elsewhere id x (λ is. absurd (omega arith)) in
    let c = within_back last xs (All-tail (λ id. id ≤ last) x xs all) id above in
    omega arith
