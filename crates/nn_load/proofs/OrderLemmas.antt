-- The order of the names of images and of segments, by their texts, is that of their ids.
use Rattle.std.proofs.Common.{◌≡◌, ◌⊎◌, inl, inr, ℕ, zero, suc, ◌+◌, ◌*◌, ◌/◌, ◌%◌, ◌^◌, ◌<◌, ◌≤◌, List, [], ◌∷◌, ◌++◌, length, get_or, refl, sym, ◌∙◌, ap, subst, append_assoc, append-nil, lit<, arith}
use Rattle.std.specs.Prelude.{codes, AllPairs}
use Rattle.std.specs.Ordering.{nat_cmp, ordering_then, ordering_reverse}
use Rattle.std.specs.declared.cmp.Ordering.{Ordering}
use Rattle.std.specs.declared.cmp.Ordering.TheVariants.{Less, Equal, Greater}
use Rattle.std.specs.Cmp.Lexicographic.{slice_cmp}
use Rattle.std.proofs.Math.Nat.{pow-suc, div-lt_iff_lt-mul}
use Rattle.std.proofs.lemmas.Cmp.{nat_list_cmp_total}
use Rattle.std.proofs.lemmas.List.{get_or_default}
use Rattle.nn_base.specs.Decimal.{last_digits}
use Rattle.nn_base.specs.declared.file_name.FileName.{FileName}
use Rattle.nn_base.specs.declared.file_name.FileName.TheVariants.{Image, Edits, InProgress}
use Rattle.nn_base.specs.FileText.{text_of, id_text, IsInRange}
use Rattle.nn_host.specs.Listing.{IsBefore}

-- ---- texts that begin with numbers of as many digits

then_less : (o p : Ordering) → ordering_then o p ≡ Less → (o ≡ Less) ⊎ ((o ≡ Equal) × (p ≡ Less))
then_less Less p e = inl refl
then_less Equal p e = inr (refl, e)
then_less Greater p e = cc

number_less : (x y : ℕ) → nat_cmp x y ≡ Less → x < y
number_less x y e = grind arith

number_equal : (x y : ℕ) → nat_cmp x y ≡ Equal → x ≡ y
number_equal x y e = grind arith

tenth : (k n : ℕ) → n < 10 ^ suc k → n / 10 < 10 ^ k
tenth k n small = let fewer : n < 10 ^ k * 10 = rw (← pow-suc 10 k) small in (div-lt_iff_lt-mul {k = 10} {x = n} {y = 10 ^ k} (lit< tt)).1 fewer

-- the numbers decide, and where they are the same what stands behind them
decided : (k a b : ℕ) (x y : List ℕ) → a < 10 ^ k → b < 10 ^ k → slice_cmp nat_cmp (last_digits k a ++ x) (last_digits k b ++ y) ≡ Less → (a < b) ⊎ ((a ≡ b) × (slice_cmp nat_cmp x y ≡ Less))
unfolding last_digits
decided zero a b x y a_small b_small less = inr (omega arith, less)
decided (suc k) a b x y a_small b_small less =
    let fronts : slice_cmp nat_cmp (last_digits k (a / 10) ++ ((48 + a % 10) ∷ x)) (last_digits k (b / 10) ++ ((48 + b % 10) ∷ y)) ≡ Less =
    sym (λ i. slice_cmp nat_cmp (append_assoc (last_digits k (a / 10)) ((48 + a % 10) ∷ []) x i) (append_assoc (last_digits k (b / 10)) ((48 + b % 10) ∷ []) y i)) ∙ less in
    elim (decided k (a / 10) (b / 10) ((48 + a % 10) ∷ x) ((48 + b % 10) ∷ y) (tenth k a a_small) (tenth k b b_small) fronts) [
      | inl lower ↦ inl (omega arith)
      | inr same ↦ elim (then_less (nat_cmp (48 + a % 10) (48 + b % 10)) (slice_cmp nat_cmp x y) same.1) [
        | inl digit ↦ let lower = number_less (48 + a % 10) (48 + b % 10) digit in inl (omega arith)
        | inr rest ↦ let digits = number_equal (48 + a % 10) (48 + b % 10) rest.0 in inr (omega arith, rest.1)
      ]
    ]

ids_decided : (a b : ℕ) (x y : List ℕ) → a < 2 ^ 63 → b < 2 ^ 63 → slice_cmp nat_cmp (id_text a ++ x) (id_text b ++ y) ≡ Less → (a < b) ⊎ ((a ≡ b) × (slice_cmp nat_cmp x y ≡ Less))
ids_decided a b x y a_small b_small less = decided 19 a b x y (omega arith) (omega arith) less

-- ---- names

pub images_ascend : (a b : ℕ) → a < 2 ^ 63 → b < 2 ^ 63 → IsBefore (Image a) (Image b) → a < b
images_ascend a b a_small b_small before =
    elim (ids_decided a b [] [] a_small b_small ((λ i. slice_cmp nat_cmp (append-nil (id_text a) i) (append-nil (id_text b) i)) ∙ before)) [
      | inl lower ↦ lower
      | inr same ↦ let apart = same.1 in cc
    ]

pub finalized_ascend : (a b : ℕ × ℕ) → IsInRange (Edits a) → IsInRange (Edits b) → IsBefore (Edits a) (Edits b) → a.0 ≤ b.0
finalized_ascend a b a_in b_in before =
    elim (ids_decided a.0 b.0 (codes "-" ++ id_text a.1) (codes "-" ++ id_text b.1) (omega (arith, a_in)) (omega (arith, b_in)) before) [ inl lower ↦ omega arith | inr same ↦ omega (arith, same.0) ]

pub in_progress_ascend : (a b : ℕ) → IsInRange (InProgress a) → IsInRange (InProgress b) → IsBefore (InProgress a) (InProgress b) → a < b
in_progress_ascend a b a_in b_in before =
    elim (ids_decided a b [] [] a_in.1 b_in.1 ((λ i. slice_cmp nat_cmp (append-nil (id_text a) i) (append-nil (id_text b) i)) ∙ before)) [
      | inl lower ↦ lower
      | inr same ↦ let apart = same.1 in cc
    ]

-- a number begins with a digit, which stands before each letter
begins_low : (k n : ℕ) → (c : ℕ) × (rest : List ℕ) × (last_digits (suc k) n ≡ c ∷ rest) × (c ≤ 57)
unfolding last_digits
begins_low zero n = (48 + n % 10, [], refl, omega arith)
begins_low (suc k) n = let front = begins_low k (n / 10) in (front.0, front.1 ++ (48 + n % 10) ∷ [], ap (λ t. t ++ (48 + n % 10) ∷ []) front.2, front.3)

letter_behind : (c : ℕ) (x y : List ℕ) → c ≤ 57 → slice_cmp nat_cmp (105 ∷ x) (c ∷ y) ≡ Less → ⊥
letter_behind c x y low less = elim (then_less (nat_cmp 105 c) (slice_cmp nat_cmp x y) less) [
  | inl first ↦ let lower = number_less 105 c first in omega arith
  | inr same ↦ let equal = number_equal 105 c same.0 in omega arith
]

pub finalized_first : (a : ℕ) (b : ℕ × ℕ) → IsBefore (InProgress a) (Edits b) → ⊥
finalized_first a b before =
    let front = begins_low 18 b.0 in
    let rest = codes "-" ++ id_text b.1 in
    letter_behind front.0 (codes "nprogress_" ++ id_text a) (front.1 ++ rest) front.3 ((λ i. slice_cmp nat_cmp (codes "inprogress_" ++ id_text a) (sym front.2 i ++ rest)) ∙ before)

-- ---- listings

pub not_behind : (a b : FileName) → IsBefore a b → IsBefore b a → ⊥
not_behind a b before behind = let turned = nat_list_cmp_total.antisymm (text_of b) (text_of a) ∙ ap ordering_reverse before in let apart = sym turned ∙ behind in cc

pub in_order : (names : List FileName) (i j : ℕ) (a b : FileName) → AllPairs IsBefore names → i < j → j < length names → get_or names i a ≡ a → get_or names j b ≡ b → IsBefore a b
in_order names i j a b ascending lt below a_at b_at =
    subst (λ (n : FileName). IsBefore n b) a_at (subst (IsBefore (get_or names i a)) (get_or_default names j a b below ∙ b_at) (ascending i j a lt below))
