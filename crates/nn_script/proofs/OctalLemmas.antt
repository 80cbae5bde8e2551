-- Octal digits, and the number that at most four of them write.
use Rattle.std.proofs.Common.{◌≡◌, ℕ, ◌+◌, ◌-◌, ◌*◌, ◌^◌, ◌<◌, ◌≤◌, true, length, take, get_or, ap, ◌∙◌, arith, lit<}
use Rattle.std.specs.List.{list_all}
use Rattle.std.specs.Char.{digit_value}
use Rattle.std.specs.Int.{IsInRange}
use Rattle.std.specs.Str.Parse.{digits_value, AllDigits}
use Rattle.std.proofs.lemmas.Int.Digits.{digits_value-lt, digits_more, digits_value_more}
use Rattle.std.proofs.lemmas.List.{length-take-le}
use Rattle.std.proofs.lemmas.List.Sums.{AllPass-from_list_all}
use Rattle.std.proofs.lemmas.Bool.Decides.{nat_tests}
use Rattle.std.proofs.Math.Nat.{pow-le-pow_right}
use Rattle.nn_base.specs.Paths.{Bytes}
use Rattle.nn_script.specs.Words.{is_octal_digit}

-- what one more digit makes of the number that is read so far
pub record OneMore (ds : Bytes) (i : ℕ) : Type 0 where
  pub digits : AllDigits 8 (take (i + 1) ds)
  pub digit : IsInRange 48 55 (get_or ds i 0)
  pub value : digits_value 8 (take (i + 1) ds) ≡ digits_value 8 (take i ds) * 8 + (get_or ds i 0 - 48)
  pub bound : digits_value 8 (take (i + 1) ds) < 8 ^ 4

digit_range : (c : ℕ) → is_octal_digit c ≡ true → IsInRange 48 55 c
digit_range c h = grind (arith, nat_tests)

digit_value_is : (c : ℕ) → IsInRange 48 55 c → digit_value c ≡ c - 48
digit_value_is c h = grind (arith, nat_tests)

pub one_more : (ds : Bytes) (i : ℕ) → i < length ds → length ds ≤ 4 → list_all is_octal_digit ds ≡ true → AllDigits 8 (take i ds) → OneMore ds i
one_more ds i h few all so_far =
    let digit = digit_range (get_or ds i 0) (AllPass-from_list_all is_octal_digit ds all i 0 h) in
    let is = digit_value_is (get_or ds i 0) digit in
    let more = digits_more 8 ds i h so_far (omega (arith, is, digit)) in
    let short : length (take (i + 1) ds) ≤ 4 = omega (arith, length-take-le (i + 1) ds (omega arith)) in
    record {
      digits = more;
      digit = digit;
      value = digits_value_more 8 ds i h ∙ ap (λ d. digits_value 8 (take i ds) * 8 + d) is;
      bound = omega (arith, digits_value-lt 8 (take (i + 1) ds) more, pow-le-pow_right {n = 8} (lit< tt) short);
    }
