-- A front of a line that is too long reads as the whole line does.
use Rattle.std.proofs.Common.{◌≡◌, ℕ, ◌+◌, ◌-◌, ◌<◌, ◌≤◌, suc, zero, Bool, true, false, ◌==◌, nat_lt, if◌then◌else◌, [], ◌∷◌, length, take, Some, None, Ok, Err, sym, ap, ◌∙◌, refl, inl, inr, arith}
use Rattle.std.specs.Prelude.{slice_index}
use Rattle.std.specs.Str.Lines.{strip_carriage_return}
use Rattle.std.proofs.lemmas.List.{length-take-le, take_all}
use Rattle.std.proofs.lemmas.Bool.{cases_lt}
use Rattle.std.proofs.lemmas.Bool.Decides.{nat_tests}
use Rattle.nn_base.specs.Limits.{most_line}
use Rattle.nn_base.specs.Paths.{Bytes}
use Rattle.nn_script.specs.Lines.{has_no_answer}
use Rattle.nn_script.specs.Reading.{reading_of, command_on}
use Rattle.nn_script.specs.Arguments.{◌>>=◌}
use Rattle.nn_script.specs.declared.syntax.Syntax.TheVariants.{Long}
use Rattle.nn_reader.specs.Reading.{most_kept}

-- the front of a line begins as the line does
begins_alike : (n : ℕ) (line : Bytes) → 0 < n → has_no_answer (take n line) ≡ has_no_answer line
begins_alike zero line some = absurd (omega (arith, some))
begins_alike (suc n) [] some = refl
begins_alike (suc n) (byte ∷ line) some = refl

-- a carriage return at the end of a line is not its beginning
record Strips (line stripped : Bytes) : Type 0 where
  long : length line ≤ length stripped + 1
  begins : has_no_answer stripped ≡ has_no_answer line

strips_by : (b : Bool) (line : Bytes) → 1 < length line → Strips line (if b then take (length line - 1) line else line)
strips_by true line long = record {
  long = omega (arith, length-take-le (length line - 1) line (omega arith));
  begins = begins_alike (length line - 1) line (omega arith);
}
strips_by false line long = record { long = omega arith; begins = refl }

strips : (line : Bytes) → 1 < length line → Strips line (strip_carriage_return line)
strips line long = strips_by (slice_index line (length line - 1) == 13) line long

if_true : {A : Type 0} (b : Bool) (x y : A) → b ≡ true → (if b then x else y) ≡ x
if_true true x y e = refl
if_true false x y e = absurd (cc e)

long_command : (line : Bytes) → nat_lt most_line (length line) ≡ true → command_on line ≡ Err Long
long_command line e = if_true (nat_lt most_line (length line)) (Err Long) _ e

long_reading : (line : Bytes) → most_line < length line → reading_of line ≡ (if has_no_answer line then Ok None else Err Long)
unfolding reading_of
long_reading line long =
    let e : nat_lt most_line (length line) ≡ true = grind (arith, nat_tests) in
    let read : (command_on line >>= (λ command. Ok (Some command))) ≡ Err Long = ap (λ r. r >>= (λ command. Ok (Some command))) (long_command line e) in
    ap (λ r. if has_no_answer line then Ok None else r) read

alike : (a b : Bytes) → most_line < length a → most_line < length b → has_no_answer a ≡ has_no_answer b → reading_of a ≡ reading_of b
alike a b long_a long_b same = long_reading a long_a ∙ ap (λ x. if x then Ok None else Err Long) same ∙ sym (long_reading b long_b)

pub front_reads_alike : (n : ℕ) (line : Bytes) → 65536 ≤ n → reading_of (take n line) ≡ reading_of line
front_reads_alike n line enough = elim (cases_lt n (length line)) [
  | inl long ↦ alike (take n line) line (omega (arith, length-take-le n line (omega arith))) (omega arith) (begins_alike n line (omega arith))
  | inr short ↦ ap reading_of (take_all n line short)
]

pub stripped_reads_alike : (n : ℕ) (line : Bytes) → most_kept ≤ n → reading_of (strip_carriage_return (take n line)) ≡ reading_of (strip_carriage_return line)
stripped_reads_alike n line enough = elim (cases_lt n (length line)) [
  | inl long ↦
      let len = length-take-le n line (omega arith) in
      let front = strips (take n line) (omega (arith, len)) in
      let whole = strips line (omega arith) in
      alike (strip_carriage_return (take n line)) (strip_carriage_return line) (omega (arith, len, front.long)) (omega (arith, whole.long)) (front.begins ∙ begins_alike n line (omega arith) ∙ sym whole.begins)
  | inr short ↦ ap (λ x. reading_of (strip_carriage_return x)) (take_all n line short)
]
