-- Prefixes of paths, and where a path goes that is moved.
use Rattle.std.proofs.Common.{◌+◌, ◌<◌, ◌≡◌, ◌≢◌, ℕ, zero, suc, ◌≤◌, Bool, true, false, cond, List, [], ◌∷◌, ◌++◌, ◌&&◌, length, take, drop, refl, sym, ap, ◌∙◌, arith, nat_eq, length-append, append_assoc, append-nil, ◌-◌, Some, get_or}
use Rattle.std.specs.Cmp.Lexicographic.{pointwise, bytes_decides}
use Rattle.std.proofs.Math.Seq.{take-length}
use Rattle.std.specs.Prelude.{slice_get}
use Rattle.std.proofs.lemmas.Option.{slice_get-get_or}
use Rattle.std.proofs.lemmas.List.{take-append-le, take_more}
use Rattle.nn_base.specs.Paths.{Names, Bytes, is_under}
use Rattle.nn_tree.specs.Changes.{moved}

same_name : (x : List ℕ) → pointwise nat_eq x x ≡ true
same_name x = (bytes_decides x x).1 refl

pub under_itself : (p : Names) → is_under p p ≡ true
under_itself [] = refl
under_itself (x ∷ p) = ap (λ b. b && is_under p p) (same_name x) ∙ under_itself p

pub under_none : (p : Names) → p ≢ [] → is_under p [] ≡ false
under_none [] h = absurd (h refl)
under_none (x ∷ p) h = refl

and_false : (b : Bool) → (b && false) ≡ false
and_false true = refl
and_false false = refl

-- a path that is not p has p as a prefix where its front has
pub under_push : (p q : Names) (x : List ℕ) → p ≢ q ++ x ∷ [] → is_under p (q ++ x ∷ []) ≡ is_under p q
under_push [] q x other = refl
under_push (y ∷ []) [] x other = elim (pointwise nat_eq y x) as (λ b. pointwise nat_eq y x ≡ b → (b && true) ≡ false) [
  | true ↦ λ h. absurd (other (ap (λ y. y ∷ []) ((bytes_decides y x).0 h)))
  | false ↦ λ h. refl
] refl
under_push (y ∷ z ∷ p) [] x other = and_false _
under_push (y ∷ p) (z ∷ q) x other = elim (pointwise nat_eq y z) as (λ b. pointwise nat_eq y z ≡ b → (b && is_under p (q ++ x ∷ [])) ≡ (b && is_under p q)) [
  | true ↦ λ h. under_push p q x (λ e. other (λ i. (bytes_decides y z).0 h i ∷ e i))
  | false ↦ λ h. refl
] refl

pub under_split : (p q : Names) → is_under p q ≡ true → q ≡ p ++ drop (length p) q
under_split [] q h = refl
under_split (x ∷ p) [] h = cc
under_split (x ∷ p) (y ∷ q) h = elim (pointwise nat_eq x y) as (λ b. pointwise nat_eq x y ≡ b → (b && is_under p q) ≡ true → y ∷ q ≡ x ∷ (p ++ drop (length p) q)) [
  | true ↦ λ e h. let z : x ≡ y = (bytes_decides x y).0 e in λ i. sym z i ∷ under_split p q h i
  | false ↦ λ e h. cc
] refl h

under_long : (p q : Names) → is_under p q ≡ true → length p ≤ length q
under_long p q h = let l = ap length (under_split p q h) ∙ length-append p (drop (length p) q) in omega arith

drop_push : (n : ℕ) (q : Names) (x : Bytes) → n ≤ length q → drop n (q ++ x ∷ []) ≡ drop n q ++ x ∷ []
drop_push zero q x h = refl
drop_push (suc n) [] x h = absurd (omega arith)
drop_push (suc n) (y ∷ q) x h = drop_push n q x (omega arith)

drop_all : (q : Names) → drop (length q) q ≡ []
drop_all [] = refl
drop_all (x ∷ q) = drop_all q

pub cancel_front : (d a b : Names) → d ++ a ≡ d ++ b → a ≡ b
cancel_front [] a b h = h
cancel_front (x ∷ d) a b h = cancel_front d a b (ap (drop 1) h)

pub take_front : (d t : Names) → take (length d) (d ++ t) ≡ d
take_front d t = take-append-le (length d) d t (omega arith) ∙ take-length d

module _ (s d : Names) where
  pub moved_push : (q : Names) (x : Bytes) → s ≢ q ++ x ∷ [] → moved s d (q ++ x ∷ []) ≡ moved s d q ++ x ∷ []
  moved_push q x other =
      ap (λ b. cond b (d ++ drop (length s) (q ++ x ∷ [])) (q ++ x ∷ [])) (under_push s q x other)
      ∙ elim (is_under s q) as (λ b. is_under s q ≡ b → cond b (d ++ drop (length s) (q ++ x ∷ [])) (q ++ x ∷ []) ≡ cond b (d ++ drop (length s) q) q ++ x ∷ []) [
        | true ↦ λ h. ap (λ t. d ++ t) (drop_push (length s) q x (under_long s q h)) ∙ sym (append_assoc d (drop (length s) q) (x ∷ []))
        | false ↦ λ h. refl
      ] refl

  pub moved_self : moved s d s ≡ d
  moved_self = ap (λ b. cond b (d ++ drop (length s) s) s) (under_itself s) ∙ ap (λ t. d ++ t) (drop_all s) ∙ append-nil d

  pub moved_out : (q : Names) → is_under s q ≡ false → moved s d q ≡ q
  moved_out q h = ap (λ b. cond b (d ++ drop (length s) q) q) h

  pub moved_in : (q : Names) → is_under s q ≡ true → moved s d q ≡ d ++ drop (length s) q
  moved_in q h = ap (λ b. cond b (d ++ drop (length s) q) q) h

-- ---- for callers: a path is the one of its directory, and its name

pub front_and_name : (p above : Names) (name x : Bytes) (n : ℕ) → n ≡ length p → 0 < n → above ≡ take (length p - 1) p → slice_get p (n - 1) ≡ Some x → name ≡ x → p ≡ above ++ name ∷ []
front_and_name p above name x n depth below_root front last same =
    let k : n - 1 ≡ length p - 1 = omega arith in
    let read : slice_get p (length p - 1) ≡ Some x = ap (slice_get p) (sym k) ∙ last in
    let within : length p - 1 < length p = omega arith in
    let whole : (length p - 1) + 1 ≡ length p = omega arith in
    let is : get_or p (length p - 1) x ≡ x = let h = slice_get-get_or p (length p - 1) x within in cc in
    sym (take-length p) ∙ ap (λ n. take n p) (sym whole) ∙ take_more p (length p - 1) x within ∙ (λ i. sym front i ++ (is ∙ sym same) i ∷ [])

-- no path is below a longer one
pub not_under_longer : (p q : Names) → length q < length p → is_under p q ≡ false
not_under_longer p q shorter = elim (is_under p q) as (λ b. is_under p q ≡ b → b ≡ false) [
  | true ↦ λ h. (let l = under_long p q h in absurd (omega arith))
  | false ↦ λ h. refl
] refl
