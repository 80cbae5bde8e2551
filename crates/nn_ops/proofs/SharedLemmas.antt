-- The names that two paths have in common, and which prefixes they share.
use Rattle.std.proofs.Common.{◌≡◌, ◌≢◌, ℕ, zero, suc, ◌+◌, ◌<◌, ◌≤◌, Bool, true, false, not, cond, [], ◌∷◌, ◌++◌, ◌&&◌, take, drop, length, nat_eq, refl, sym, ap, ◌∙◌, arith, append-nil, ◌⊎◌, inl, inr, length-drop}
use Rattle.std.proofs.Math.Seq.{take-length}
use Rattle.std.proofs.lemmas.Bool.{ltb-true, ltb-false}
use Rattle.std.proofs.lemmas.Bool.Decides.{leb_tells}
use Rattle.std.specs.Prelude.{nat_lt}
use Rattle.std.proofs.lemmas.List.{drop_more}
use Rattle.std.specs.Cmp.Lexicographic.{pointwise, bytes_decides}
use Rattle.nn_base.specs.Paths.{Names, Bytes, is_under}
use Rattle.nn_tree.proofs.PrefixLemmas.{not_under_longer, under_split}
use Rattle.nn_ops.specs.Above.{is_above, shared}

shared_same : (x y : Bytes) (p q : Names) → pointwise nat_eq x y ≡ true → shared (x ∷ p) (y ∷ q) ≡ 1 + shared p q
shared_same x y p q h = ap (λ b. cond b (1 + shared p q) 0) h

shared_other : (x y : Bytes) (p q : Names) → pointwise nat_eq x y ≡ false → shared (x ∷ p) (y ∷ q) ≡ 0
shared_other x y p q h = ap (λ b. cond b (1 + shared p q) 0) h

pub shared_le : (p q : Names) → (shared p q ≤ length p) × (shared p q ≤ length q)
shared_le [] q = (omega arith, omega arith)
shared_le (x ∷ p) [] = (omega arith, omega arith)
shared_le (x ∷ p) (y ∷ q) = elim (pointwise nat_eq x y) as (λ b. (cond b (1 + shared p q) 0 ≤ length (x ∷ p)) × (cond b (1 + shared p q) 0 ≤ length (y ∷ q))) [
  | true ↦ (let l = shared_le p q in let a = l.0 in let b = l.1 in (omega arith, omega arith))
  | false ↦ (omega arith, omega arith)
]

-- a prefix that is no longer is shared, and a longer one isn't
pub shared_prefix : (p q : Names) (n : ℕ) → n ≤ shared p q → is_under (take n p) q ≡ true
shared_prefix p q zero h = refl
shared_prefix [] q (suc n) h = absurd (omega arith)
shared_prefix (x ∷ p) [] (suc n) h = absurd (omega arith)
shared_prefix (x ∷ p) (y ∷ q) (suc n) h = elim (pointwise nat_eq x y) as (λ b. pointwise nat_eq x y ≡ b → suc n ≤ cond b (1 + shared p q) 0 → (b && is_under (take n p) q) ≡ true) [
  | true ↦ λ e h. shared_prefix p q n (omega arith)
  | false ↦ λ e h. absurd (omega arith)
] refl h

pub unshared_prefix : (p q : Names) (n : ℕ) → shared p q < n → n ≤ length p → is_under (take n p) q ≡ false
unshared_prefix p q zero h le = absurd (omega arith)
unshared_prefix [] q (suc n) h le = absurd (omega arith)
unshared_prefix (x ∷ p) [] (suc n) h le = refl
unshared_prefix (x ∷ p) (y ∷ q) (suc n) h le = elim (pointwise nat_eq x y) as (λ b. pointwise nat_eq x y ≡ b → cond b (1 + shared p q) 0 < suc n → (b && is_under (take n p) q) ≡ false) [
  | true ↦ λ e h. unshared_prefix p q n (omega arith) (omega arith)
  | false ↦ λ e h. refl
] refl h

-- ---- name by name

-- what stands behind the first of those that are left
pub drop_next : (p : Names) (k : ℕ) (x : Bytes) (rest : Names) → drop k p ≡ x ∷ rest → drop (k + 1) p ≡ rest
drop_next p k x rest h =
    let l = length-drop k p in
    let n = ap length h in
    ap (drop 1) (sym (drop_more p k x (omega arith)) ∙ h)

step_at : (p q : Names) (k : ℕ) (x y : Bytes) (xs ys : Names) → drop k p ≡ x ∷ xs → drop k q ≡ y ∷ ys → shared (drop k p) (drop k q) ≡ cond (pointwise nat_eq x y) (1 + shared (drop (k + 1) p) (drop (k + 1) q)) 0
step_at p q k x y xs ys a b = λ i. shared (next p x xs a i) (next q y ys b i)
  where
    next : (p : Names) (x : Bytes) (xs : Names) → drop k p ≡ x ∷ xs → drop k p ≡ x ∷ drop (k + 1) p
    next p x xs is = is ∙ ap (λ z. x ∷ z) (sym (drop_next p k x xs is))

pub shared_more : (p q : Names) (k : ℕ) (x y : Bytes) (xs ys : Names) → drop k p ≡ x ∷ xs → drop k q ≡ y ∷ ys → pointwise nat_eq x y ≡ true → shared p q ≡ k + shared (drop k p) (drop k q) → shared p q ≡ k + 1 + shared (drop (k + 1) p) (drop (k + 1) q)
shared_more p q k x y xs ys a b same h =
    let s = step_at p q k x y xs ys a b ∙ ap (λ b. cond b (1 + shared (drop (k + 1) p) (drop (k + 1) q)) 0) same in
    omega arith

pub shared_ends : (p q : Names) (k : ℕ) (x y : Bytes) (xs ys : Names) → drop k p ≡ x ∷ xs → drop k q ≡ y ∷ ys → pointwise nat_eq x y ≡ false → shared p q ≡ k + shared (drop k p) (drop k q) → k ≡ shared p q
shared_ends p q k x y xs ys a b other h =
    let s = step_at p q k x y xs ys a b ∙ ap (λ b. cond b (1 + shared (drop (k + 1) p) (drop (k + 1) q)) 0) other in
    omega arith

pub shared_all : (p q : Names) (k : ℕ) → (length p ≤ k) ⊎ (length q ≤ k) → shared p q ≡ k + shared (drop k p) (drop k q) → k ≡ shared p q
shared_all p q k past h =
    let l = shared_le (drop k p) (drop k q) in
    let a = l.0 in
    let b = l.1 in
    let c = length-drop k p in
    let d = length-drop k q in
    elim past as (λ _. k ≡ shared p q) [ inl le ↦ omega arith | inr le ↦ omega arith ]

-- ---- prefixes of one another

pub both_under : (p q : Names) → is_under p q ≡ true → is_under q p ≡ true → p ≡ q
both_under [] [] a b = refl
both_under [] (y ∷ q) a b = cc
both_under (x ∷ p) [] a b = cc
both_under (x ∷ p) (y ∷ q) a b = λ i. (bytes_decides x y).0 (first _ _ a) i ∷ both_under p q (second _ _ a) (second _ _ b) i
  where
    first : (a b : Bool) → (a && b) ≡ true → a ≡ true
    first true b h = refl
    first false b h = h

    second : (a b : Bool) → (a && b) ≡ true → b ≡ true
    second true b h = h
    second false b h = cc

under_itself : (p : Names) → is_under p p ≡ true
under_itself [] = refl
under_itself (x ∷ p) = λ i. (bytes_decides x x).1 refl i && under_itself p i

empty_of : (r : Names) → length r ≡ 0 → r ≡ []
empty_of [] h = refl
empty_of (x ∷ r) h = absurd (omega arith)

-- a proper prefix shares all its names and is shorter
pub above_then : (p q : Names) → shared p q ≡ length p → nat_lt (length p) (length q) ≡ is_above p q
above_then p q all =
    let under : is_under p q ≡ true = ap (λ t. is_under t q) (sym (take-length p)) ∙ shared_prefix p q (length p) (omega arith) in
    sym (ap (λ b. b && not (is_under q p)) under ∙ by (nat_lt (length p) (length q)) refl under)
  where
    by : (b : Bool) → nat_lt (length p) (length q) ≡ b → is_under p q ≡ true → not (is_under q p) ≡ nat_lt (length p) (length q)
    by true lt under = ap not (not_under_longer q p (ltb-true (length p) (length q) lt)) ∙ sym lt
    by false ge under =
        let le : length q ≤ length p = ltb-false (length p) (length q) ge in
        let split = under_split p q under in
        let rest : length (drop (length p) q) ≡ 0 = length-drop (length p) q ∙ omega arith in
        let same : q ≡ p = split ∙ ap (λ r. p ++ r) (empty_of (drop (length p) q) rest) ∙ append-nil p in
        ap (λ r. not (is_under r p)) same ∙ ap not (under_itself p) ∙ sym ge

pub above_else : (p q : Names) → shared p q ≢ length p → false ≡ is_above p q
above_else p q other =
    let l = shared_le p q in
    let most = l.0 in
    let fewer : shared p q < length p = elim (lt_or_ge (shared p q) (length p)) as (λ _. shared p q < length p) [ inl lt ↦ lt | inr ge ↦ absurd (other (omega arith)) ] in
    sym (ap (λ b. b && not (is_under q p)) (ap (λ t. is_under t q) (sym (take-length p)) ∙ unshared_prefix p q (length p) fewer (omega arith)))
  where
    lt_or_ge : (a b : ℕ) → (a < b) ⊎ (b ≤ a)
    lt_or_ge a b = elim (leb_tells b a) as (λ _. (a < b) ⊎ (b ≤ a)) [ inl h ↦ inr h.1 | inr h ↦ inl h.1 ]

-- a path that isn't at or below another shares fewer names than that one has
shared_second : (p q : Names) → length q ≤ shared p q → is_under q p ≡ true
shared_second p [] h = refl
shared_second [] (y ∷ q) h = absurd (omega arith)
shared_second (x ∷ p) (y ∷ q) h = elim (pointwise nat_eq x y) as (λ b. pointwise nat_eq x y ≡ b → suc (length q) ≤ cond b (1 + shared p q) 0 → (pointwise nat_eq y x && is_under q p) ≡ true) [
  | true ↦ λ e h. (λ i. (bytes_decides y x).1 (sym ((bytes_decides x y).0 e)) i && shared_second p q (omega arith) i)
  | false ↦ λ e h. absurd (omega arith)
] refl h

pub shares_fewer : (p q : Names) → is_under q p ≡ false → shared p q < length q
shares_fewer p q h = elim (leb_tells (length q) (shared p q)) as (λ _. shared p q < length q) [
  | inl le ↦ (let under = shared_second p q le.1 in let z : true ≡ false = sym under ∙ h in cc)
  | inr lt ↦ lt.1
]
