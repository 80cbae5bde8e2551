-- How a line of a few words reads: its words, its path and its number.
use Rattle.std.proofs.Common.{◌≡◌, ℕ, ◌^◌, ◌<◌, ◌≤◌, Bool, true, false, ◌&&◌, ◌==◌, List, [], ◌∷◌, ◌++◌, length, refl, arith, le-ltb}
use Rattle.std.specs.Prelude.{nat_le, nat_lt, Some, Ok}
use Rattle.std.specs.Fmt.{decimal}
use Rattle.std.specs.List.{list_all, list_any}
use Rattle.std.specs.Char.{is_ascii_digit}
use Rattle.std.proofs.lemmas.Bool.{and_parts, and_from, or_parts}
use Rattle.std.proofs.lemmas.Bool.Decides.{nat_tests}
use Rattle.std.proofs.lemmas.Fmt.{digits_decimal}
use Rattle.nn_base.specs.Limits.{most_line}
use Rattle.nn_base.specs.Paths.{Bytes}
use Rattle.nn_base.proofs.DecimalLemmas.{numerals}
use Rattle.nn_script.specs.declared.command.ScriptCommand.{ScriptCommand}
use Rattle.nn_script.specs.Lines.{has_no_answer}
use Rattle.nn_script.specs.Reading.{command_in, reading_of}
use Rattle.nn_script.specs.Words.{words, is_line_byte}

-- ---- digits

pub digits_of : (n : ℕ) → n < 2 ^ 64 → list_all is_ascii_digit (decimal n) ≡ true
digits_of n small = digits_decimal numerals n small

-- each byte passes a test that each digit passes
pub all_pass : (p : ℕ → Bool) → ((b : ℕ) → is_ascii_digit b ≡ true → p b ≡ true) → (bytes : Bytes) → list_all is_ascii_digit bytes ≡ true → list_all p bytes ≡ true
all_pass p each [] all = refl
all_pass p each (b ∷ bytes) all = let parts = and_parts (is_ascii_digit b) (list_all is_ascii_digit bytes) all in and_from (p b) (list_all p bytes) (each b parts.0) (all_pass p each bytes parts.1)

-- none passes one that no digit passes
pub none_pass : (p : ℕ → Bool) → ((b : ℕ) → is_ascii_digit b ≡ true → p b ≡ false) → (bytes : Bytes) → list_all is_ascii_digit bytes ≡ true → list_any p bytes ≡ false
none_pass p each [] all = refl
none_pass p each (b ∷ bytes) all =
    let parts = and_parts (is_ascii_digit b) (list_all is_ascii_digit bytes) all in
    let first = each b parts.0 in
    let rest = none_pass p each bytes parts.1 in
    rw (first, rest) refl

pub digit_prints : (b : ℕ) → is_ascii_digit b ≡ true → (nat_le 32 b && nat_le b 126) ≡ true
digit_prints b e = grind (arith, nat_tests, e)

pub digit_is_no : (c b : ℕ) → c < 48 → is_ascii_digit b ≡ true → (b == c) ≡ false
digit_is_no c b low e = grind (arith, nat_tests, e, low)

-- ---- words

-- a word and what stands behind the space
pub word_first : (word rest : Bytes) → list_any (λ byte. byte == 32) word ≡ false → words (word ++ 32 ∷ rest) ≡ word ∷ words rest
word_first [] rest none = refl
word_first (b ∷ word) rest none =
    let parts = or_parts (b == 32) (list_any (λ byte. byte == 32) word) none in
    let more = word_first word rest parts.1 in
    rw (parts.0, more) refl

pub word_last : (word : Bytes) → list_any (λ byte. byte == 32) word ≡ false → words word ≡ word ∷ []
word_last [] none = refl
word_last (b ∷ word) none =
    let parts = or_parts (b == 32) (list_any (λ byte. byte == 32) word) none in
    let more = word_last word parts.1 in
    rw (parts.0, more) refl

-- a line of such words reads as the command that they are
pub reads_as : (line : Bytes) (parts : List Bytes) (command : ScriptCommand) → has_no_answer line ≡ false → length line ≤ most_line → list_all is_line_byte line ≡ true → words line ≡ parts → list_any (λ word. length word == 0) parts ≡ false
    → command_in parts ≡ Ok command → reading_of line ≡ Ok (Some command)
unfolding reading_of
reads_as line parts command some short text are full is =
    let fits : nat_lt most_line (length line) ≡ false = le-ltb _ _ short in
    rw (some, fits, text, are, full, is) refl
