-- Digits and the numbers that they write.
use Rattle.std.proofs.Common.{◌≡◌, ℕ, zero, suc, ◌+◌, ◌*◌, ◌/◌, ◌%◌, ◌^◌, ◌<◌, ◌≤◌, true, Some, List, [], ◌∷◌, ◌++◌, length, take, drop, get_or, set, ◌-◌, refl, sym, ap, ◌∙◌, arith, rules, add-one, append_assoc, length-append, lit<, sub-one, ◌&&◌, leb-true, ltb-true, lt-ltb, le-leb, nat_lt}
use Rattle.std.specs.List.{list_all}
use Rattle.std.specs.Char.{is_ascii_digit, digit_value}
use Rattle.std.specs.Int.{IsInRange}
use Rattle.std.specs.Str.Parse.{digits_value, AllDigits}
use Rattle.std.proofs.lemmas.Int.Digits.{digits_value-lt, digits_value_push, digits_more, digits_value_more}
use Rattle.std.proofs.lemmas.Str.Parse.{IsDigitsTest, IsNumeralModel, numerals_by_value, digit_at}
use Rattle.std.proofs.lemmas.List.{drop-set, length-take-le, take_more, nil_from_length, take_all}
use Rattle.std.proofs.lemmas.List.Folds.{list_all-append}
use Rattle.std.proofs.lemmas.Bool.Decides.{nat_tests}
use Rattle.std.proofs.Math.Nat.{pow-le-pow_right, pow-suc, div-lt_iff_lt-mul}
use Rattle.std.proofs.lemmas.Grind.{common_steps}
use Rattle.std.proofs.lemmas.Bool.{and_parts}
use Rattle.nn_base.specs.Decimal.{last_digits, is_number, number_in}
use Rattle.std.proofs.lemmas.Option.{cond_some}

-- the test lets just the texts of digits through
tells_digits : IsDigitsTest (λ ds. list_all is_ascii_digit ds ≡ true)
tells_digits = search rules

pub numerals : IsNumeralModel (λ ds. list_all is_ascii_digit ds ≡ true) (digits_value 10)
numerals = numerals_by_value _ tells_digits

pub digits_from_test : (ds : List ℕ) → list_all is_ascii_digit ds ≡ true → AllDigits 10 ds
digits_from_test ds h = numerals.to ds h

pub last_digits_more : (k n : ℕ) → last_digits (k + 1) n ≡ last_digits k (n / 10) ++ (48 + n % 10) ∷ []
unfolding last_digits
last_digits_more k n = rw add-one refl

pub length-last_digits : (k n : ℕ) → length (last_digits k n) ≡ k
unfolding last_digits
length-last_digits zero n = refl
length-last_digits (suc k) n = length-append (last_digits k (n / 10)) ((48 + n % 10) ∷ []) ∙ ap (λ m. m + 1) (length-last_digits k (n / 10)) ∙ add-one k

-- a loop writes digits from the right: one turn, and the end
pub written_more : (k n : ℕ) (ds whole : List ℕ) → 0 < k → k ≤ length ds → last_digits k n ++ drop k ds ≡ whole
    → last_digits (k - 1) (n / 10) ++ drop (k - 1) (set ds (k - 1) (48 + n % 10)) ≡ whole
unfolding last_digits
written_more zero n ds whole some fit so_far = absurd (omega arith)
written_more (suc k) n ds whole some fit so_far =
    let below : k < length ds = omega arith in
    rw (sub-one, drop-set ds k (48 + n % 10) below, add-one) (sym (append_assoc (last_digits k (n / 10)) ((48 + n % 10) ∷ []) (drop (suc k) ds)) ∙ so_far)

pub written_all : (k n : ℕ) (ds whole : List ℕ) → k ≤ 0 → last_digits k n ++ drop k ds ≡ whole → ds ≡ whole
unfolding last_digits
written_all zero n ds whole none so_far = so_far
written_all (suc k) n ds whole none so_far = absurd (omega arith)

-- a byte from 48 to 57 is worth what it is above 48
digit_value_is : (c : ℕ) → IsInRange 48 57 c → digit_value c ≡ c - 48
digit_value_is c h = grind (arith, nat_tests)

-- what one more digit makes of the number that is read so far
pub record OneMore (ds : List ℕ) (i : ℕ) : Type 0 where
  pub digits : AllDigits 10 (take (i + 1) ds)
  pub digit : IsInRange 48 57 (get_or ds i 0)
  pub value : digits_value 10 (take (i + 1) ds) ≡ digits_value 10 (take i ds) * 10 + (get_or ds i 0 - 48)
  pub bound : digits_value 10 (take (i + 1) ds) < 2 ^ 64

pub one_more : (ds : List ℕ) (i : ℕ) → i < length ds → length ds ≤ 19 → list_all is_ascii_digit ds ≡ true → AllDigits 10 (take i ds) → OneMore ds i
one_more ds i h few all so_far =
    let digit = digit_at ds i (digits_from_test ds all) h in
    let more = digits_more 10 ds i h so_far (grind (arith, digit_value_is (get_or ds i 0) digit)) in
    let short : length (take (i + 1) ds) ≤ 19 = omega (arith, length-take-le (i + 1) ds (omega arith)) in
    record {
      digits = more;
      digit = digit;
      value = digits_value_more 10 ds i h ∙ ap (λ d. digits_value 10 (take i ds) * 10 + d) (digit_value_is (get_or ds i 0) digit);
      bound = omega (arith, digits_value-lt 10 (take (i + 1) ds) more, pow-le-pow_right {n = 10} (lit< tt) short);
    }

-- what is written so is read again
pub digits-last_digits : (k n : ℕ) → list_all is_ascii_digit (last_digits k n) ≡ true
unfolding last_digits
digits-last_digits zero n = refl
digits-last_digits (suc k) n = grind (arith, common_steps, nat_tests, digits-last_digits k (n / 10))

pub digits_value-last_digits : (k n : ℕ) → n < 10 ^ k → digits_value 10 (last_digits k n) ≡ n
unfolding last_digits
digits_value-last_digits zero n small = omega arith
digits_value-last_digits (suc k) n small =
    let fewer : n < 10 ^ k * 10 = rw (← pow-suc 10 k) small in
    let front : digits_value 10 (last_digits k (n / 10)) ≡ n / 10 = digits_value-last_digits k (n / 10) ((div-lt_iff_lt-mul {k = 10} {x = n} {y = 10 ^ k} (lit< tt)).1 fewer) in
    let digit : digit_value (48 + n % 10) ≡ n % 10 = digit_value_is (48 + n % 10) (omega arith) ∙ omega arith in
    digits_value_push 10 (last_digits k (n / 10)) (48 + n % 10) ∙ omega (arith, front, digit)

-- what is read is written so
pub last_digits-digits_value : (k : ℕ) (ds : List ℕ) → length ds ≡ k → list_all is_ascii_digit ds ≡ true → last_digits k (digits_value 10 ds) ≡ ds
unfolding last_digits
last_digits-digits_value zero ds h all = sym (nil_from_length ds h)
last_digits-digits_value (suc k) ds h all =
    let front = take k ds in
    let c = get_or ds k 0 in
    let v = digits_value 10 front in
    let whole : ds ≡ front ++ c ∷ [] = sym (take_all (k + 1) ds (omega arith)) ∙ take_more ds k 0 (omega arith) in
    let parts : (list_all is_ascii_digit front && (is_ascii_digit c && true)) ≡ true = sym (list_all-append is_ascii_digit front (c ∷ [])) ∙ ap (list_all is_ascii_digit) (sym whole) ∙ all in
    let range : IsInRange 48 57 c = digit_at ds k (digits_from_test ds all) (omega arith) in
    let value : digits_value 10 ds ≡ v * 10 + (c - 48) = ap (digits_value 10) whole ∙ digits_value_push 10 front c ∙ ap (λ d. v * 10 + d) (digit_value_is c range) in
    let high : (v * 10 + (c - 48)) / 10 ≡ v = omega (arith, range) in
    let low : 48 + (v * 10 + (c - 48)) % 10 ≡ c = omega (arith, range) in
    let rest : last_digits k v ≡ front = last_digits-digits_value k front (length-take-le k ds (omega arith)) (and_parts _ _ parts).0 in
    ap (last_digits (suc k)) value ∙ (λ i. last_digits k (high i) ++ (low i) ∷ []) ∙ ap (λ xs. xs ++ c ∷ []) rest ∙ sym whole

-- the text writes the number n
pub record Writes (text : List ℕ) (n : ℕ) : Type 0 where
  pub some : 1 ≤ length text
  pub few : length text ≤ 19
  pub digits : list_all is_ascii_digit text ≡ true
  pub value : digits_value 10 text ≡ n
  pub small : n < 2 ^ 63

pub writes_from_number_in : (text : List ℕ) (n : ℕ) → number_in text ≡ Some n → Writes text n
writes_from_number_in text n e =
    let read = cond_some (is_number text) (digits_value 10 text) n e in
    let one = and_parts _ _ read.0 in
    let two = and_parts _ _ one.1 in
    let three = and_parts _ _ two.1 in
    record {
      some = leb-true _ _ one.0;
      few = leb-true _ _ two.0;
      digits = three.0;
      value = read.1;
      small = omega (arith, ltb-true _ _ three.1, read.1);
    }

pub number_in_writes : (text : List ℕ) (n : ℕ) → Writes text n → number_in text ≡ Some n
number_in_writes text n w =
    let small : nat_lt (digits_value 10 text) (2 ^ 63) ≡ true = lt-ltb _ _ (omega (arith, w.value, w.small)) in
    let all : is_number text ≡ true = rw (le-leb _ _ w.some, le-leb _ _ w.few, w.digits, small) refl in
    rw all (ap Some w.value)
