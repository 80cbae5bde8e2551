-- A set of directories is its members; one that is made in order, and how many it has.
use Rattle.std.proofs.Common.{◌≡◌, ◌≢◌, inl, inr, get_or, ℕ, suc, ◌+◌, ◌<◌, ◌≤◌, ◌==◌, ◌&&◌, ◌||◌, not, nat_lt, Bool, true, false, List, [], ◌∷◌, length, refl, sym, ◌∙◌, ap, arith, lt-ltb, le-ltb}
use mathlib.Core.Bool.{beq}
use Rattle.std.specs.List.{list_any}
use Rattle.std.specs.Cmp.Lexicographic.{pointwise}
use Rattle.std.proofs.lemmas.Bool.{cases_lt, not-false, and_parts}
use Rattle.std.proofs.lemmas.Bool.Decides.{eqb_tells}
use Rattle.std.proofs.lemmas.List.{get_or_past}
use Rattle.nn_base.proofs.PlainLemmas.{and_false}
use Rattle.nn_base.specs.DirSets.{Members, values, from_values, values-from_values, has, count_true, count_of}

pub same_members : (a b : Members) → ((j : ℕ) → has a j ≡ has b j) → a ≡ b
same_members a b same = λ i. record { m0 = same 0 i; m1 = same 1 i; m2 = same 2 i; m3 = same 3 i; m4 = same 4 i; m5 = same 5 i; m6 = same 6 i; m7 = same 7 i }

pub none_past : (set : Members) (j : ℕ) → 8 ≤ j → has set j ≡ false
none_past set j past = get_or_past (values set) j false past

pub member_below : (set : Members) (j : ℕ) → has set j ≡ true → j < 8
member_below set j is_in = elim (cases_lt j 8) [
  | inl below ↦ below
  | inr past ↦ absurd (let out = none_past set j past in let apart = sym out ∙ is_in in cc)
]

-- ---- a set that is made in order

-- it has just those below k of which a test is true
abbrev pub IsUpTo : Members → ℕ → (ℕ → Bool) → Type 0
IsUpTo set k test = (j : ℕ) → has set j ≡ (nat_lt j k && test j)

pub none_yet : (test : ℕ → Bool) {set : Members} → ((j : ℕ) → has set j ≡ false) → IsUpTo set 0 test
none_yet test empty = λ j. empty j ∙ sym (ap (λ b. b && test j) (le-ltb j 0 (omega arith)))

below_next : (j k : ℕ) → j ≢ k → nat_lt j (k + 1) ≡ nat_lt j k
below_next j k apart = elim (cases_lt j k) [
  | inl below ↦ lt-ltb j (k + 1) (omega (arith, below)) ∙ sym (lt-ltb j k below)
  | inr above ↦ le-ltb j (k + 1) (grind (arith, above, apart)) ∙ sym (le-ltb j k above)
]

pub one_more : (test : ℕ → Bool) {set more : Members} {k : ℕ} → IsUpTo set k test → test k ≡ true → ((j : ℕ) → has more j ≡ ((j == k) || has set j)) → IsUpTo more (k + 1) test
one_more test {set} {more} {k} before passes added = λ j. elim (eqb_tells j k) [
  | inl same ↦
      let here : nat_lt j (k + 1) ≡ true = lt-ltb j (k + 1) (let is = same.1 in omega (arith, is)) in
      let there : test j ≡ true = ap test same.1 ∙ passes in
      added j ∙ ap (λ b. b || has set j) same.0 ∙ sym (λ i. here i && there i)
  | inr other ↦ added j ∙ ap (λ b. b || has set j) other.0 ∙ before j ∙ sym (ap (λ b. b && test j) (below_next j k other.1))
]

pub one_past : (test : ℕ → Bool) {set : Members} {k : ℕ} → IsUpTo set k test → test k ≡ false → IsUpTo set (k + 1) test
one_past test {set} {k} before fails = λ j. elim (eqb_tells j k) [
  | inl same ↦
      let out : test j ≡ false = ap test same.1 ∙ fails in
      before j ∙ and_false (nat_lt j k) (test j) out ∙ sym (and_false (nat_lt j (k + 1)) (test j) out)
  | inr other ↦ before j ∙ sym (ap (λ b. b && test j) (below_next j k other.1))
]

pub all_told : (test : ℕ → Bool) {set : Members} → IsUpTo set 8 test → ((j : ℕ) → 8 ≤ j → test j ≡ false) → (j : ℕ) → has set j ≡ test j
all_told test {set} made past = λ j. elim (cases_lt j 8) [
  | inl below ↦ made j ∙ ap (λ b. b && test j) (lt-ltb j 8 below)
  | inr above ↦ none_past set j above ∙ sym (past j above)
]

-- ---- none, and the same

some_value : (bs : List Bool) → list_any (λ b. b) bs ≡ true → (j : ℕ) × (get_or bs j false ≡ true)
some_value [] h = cc
some_value (true ∷ bs) h = (0, refl)
some_value (false ∷ bs) h = let found = some_value bs h in (suc found.0, found.1)

pub some_member : (bs : List Bool) (set : Members) (found : Bool) → from_values bs ≡ set → length bs ≡ 8 → found ≡ list_any (λ b. b) bs → not found ≡ false → (j : ℕ) × (has set j ≡ true)
some_member bs set found is size any h =
    let some = some_value bs (sym any ∙ not-false found h) in
    (some.0, ap (λ set. has set some.0) (sym is) ∙ ap (λ bs. get_or bs some.0 false) (values-from_values bs size) ∙ some.1)

beq_same : (x y : Bool) → beq x y ≡ true → x ≡ y
beq_same true true e = refl
beq_same true false e = cc
beq_same false true e = cc
beq_same false false e = refl

beq_itself : (x : Bool) → beq x x ≡ true
beq_itself true = refl
beq_itself false = refl

pub beq_true : (x : Bool) → beq x true ≡ x
beq_true true = refl
beq_true false = refl

pub beq_false : (x : Bool) → beq x false ≡ not x
beq_false true = refl
beq_false false = refl

same_values : (xs ys : List Bool) → pointwise beq xs ys ≡ true → xs ≡ ys
same_values [] [] e = refl
same_values [] (y ∷ ys) e = cc
same_values (x ∷ xs) [] e = cc
same_values (x ∷ xs) (y ∷ ys) e = let both = and_parts (beq x y) (pointwise beq xs ys) e in λ i. beq_same x y both.0 i ∷ same_values xs ys both.1 i

itself : (xs : List Bool) → pointwise beq xs xs ≡ true
itself [] = refl
itself (x ∷ xs) = λ i. beq_itself x i && itself xs i

-- `==` tells
pub equal_sets : (a b : Members) → pointwise beq (values a) (values b) ≡ true → a ≡ b
equal_sets a b e = same_members a b (λ j. ap (λ bs. get_or bs j false) (same_values (values a) (values b) e))

pub other_sets : (a b : Members) → pointwise beq (values a) (values b) ≡ false → a ≢ b
other_sets a b e same = let apart = sym (itself (values a)) ∙ ap (λ (set : Members). pointwise beq (values a) (values set)) same ∙ e in cc

-- the comparison of the fields is that of the sets
pub compared : (xs ys : List Bool) (a b : Members) (result : Bool) → from_values xs ≡ a → from_values ys ≡ b → length xs ≡ 8 → length ys ≡ 8 → result ≡ pointwise beq xs ys
    → result ≡ pointwise beq (values a) (values b)
compared xs ys a b result x y m n e =
    let left : xs ≡ values a = sym (values-from_values xs m) ∙ ap values x in
    let right : ys ≡ values b = sym (values-from_values ys n) ∙ ap values y in
    e ∙ (λ i. pointwise beq (left i) (right i))

-- ---- how many

trues_below : (bs : List Bool) → count_true bs ≤ length bs
trues_below [] = omega arith
trues_below (true ∷ bs) = omega (arith, trues_below bs)
trues_below (false ∷ bs) = omega (arith, trues_below bs)

pub at_most_eight : (set : Members) → count_of set ≤ 8
at_most_eight set = trues_below (values set)

not_more_true : (xs ys : List Bool) → length xs ≡ length ys → ((j : ℕ) → get_or ys j false ≡ true → get_or xs j false ≡ true) → count_true ys ≤ count_true xs
not_more_true [] [] size sub = omega arith
not_more_true [] (y ∷ ys) size sub = absurd (omega (arith, size))
not_more_true (x ∷ xs) [] size sub = omega arith
not_more_true (true ∷ xs) (true ∷ ys) size sub = omega (arith, not_more_true xs ys (omega (arith, size)) (λ j. sub (suc j)))
not_more_true (true ∷ xs) (false ∷ ys) size sub = omega (arith, not_more_true xs ys (omega (arith, size)) (λ j. sub (suc j)))
not_more_true (false ∷ xs) (true ∷ ys) size sub = absurd (let apart = sub 0 refl in cc)
not_more_true (false ∷ xs) (false ∷ ys) size sub = not_more_true xs ys (omega (arith, size)) (λ j. sub (suc j))

-- a set whose members are all in another has no more
pub not_more : (a b : Members) → ((j : ℕ) → has b j ≡ true → has a j ≡ true) → count_of b ≤ count_of a
not_more a b sub = not_more_true (values a) (values b) refl sub

fewer_true : (xs ys : List Bool) → length xs ≡ length ys → ((j : ℕ) → get_or ys j false ≡ true → get_or xs j false ≡ true) → ys ≢ xs → count_true ys < count_true xs
fewer_true [] [] size sub ne = absurd (ne refl)
fewer_true [] (y ∷ ys) size sub ne = absurd (omega (arith, size))
fewer_true (x ∷ xs) [] size sub ne = absurd (omega (arith, size))
fewer_true (true ∷ xs) (true ∷ ys) size sub ne = omega (arith, fewer_true xs ys (omega (arith, size)) (λ j. sub (suc j)) (λ e. ne (ap (λ l. true ∷ l) e)))
fewer_true (true ∷ xs) (false ∷ ys) size sub ne = omega (arith, not_more_true xs ys (omega (arith, size)) (λ j. sub (suc j)))
fewer_true (false ∷ xs) (true ∷ ys) size sub ne = absurd (let apart = sub 0 refl in cc)
fewer_true (false ∷ xs) (false ∷ ys) size sub ne = fewer_true xs ys (omega (arith, size)) (λ j. sub (suc j)) (λ e. ne (ap (λ l. false ∷ l) e))

-- and fewer, if it is another
pub fewer : (a b : Members) → ((j : ℕ) → has b j ≡ true → has a j ≡ true) → b ≢ a → count_of b < count_of a
fewer a b sub ne = fewer_true (values a) (values b) refl sub (λ e. ne (same_members b a (λ j. ap (λ bs. get_or bs j false) e)))
