-- What is spelled with escapes is one word, and reads back as what it was.
use Rattle.std.proofs.Common.{◌≡◌, ℕ, ◌+◌, ◌*◌, ◌/◌, ◌%◌, ◌<◌, true, false, ◌==◌, ◌&&◌, List, [], ◌∷◌, ◌++◌, length, Option, Some, None, refl, ap, ◌∙◌, inl, inr, arith}
use Rattle.std.specs.Prelude.{All, map, nat_le, option_map}
use Rattle.std.specs.List.{slice_split, onto_first, list_all}
use Rattle.std.specs.Char.{digit_char}
use Rattle.std.proofs.lemmas.Bool.{cases_Bool, not-true, and_parts}
use Rattle.std.proofs.lemmas.Bool.Decides.{nat_tests}
use Rattle.std.proofs.lemmas.List.Elements.{All-head, All-tail}
use Rattle.std.proofs.lemmas.List.Folds.{list_all-append}
use Rattle.std.proofs.lemmas.List.Splits.{length-slice_split}
use Rattle.nn_base.specs.Paths.{Bytes}
use Rattle.nn_base.specs.Words.{is_word_byte}
use Rattle.nn_script.specs.Words.{hex_value, byte_of, unescaped_part, unescaped_parts, joined, unescaped}
use Rattle.nn_script.specs.Spelling.{is_plain, escaped_byte, escaped}

abbrev IsByte : ℕ → Type 0
IsByte byte = byte < 256

abbrev split : Bytes → List Bytes
split text = slice_split (λ byte. byte == 37) text

-- ---- digits

digit_back : (d : ℕ) → d < 16 → hex_value (digit_char d) ≡ Some d
digit_back d small = grind (arith, nat_tests)

digit_is_word : (d : ℕ) → d < 16 → is_word_byte (digit_char d) ≡ true
digit_is_word d small = grind (arith, nat_tests)

digit_is_no_mark : (d : ℕ) → d < 16 → (digit_char d == 37) ≡ false
digit_is_no_mark d small = grind (arith, nat_tests)

byte_back : (byte : ℕ) → byte < 256 → byte_of (digit_char (byte / 16)) (digit_char (byte % 16)) ≡ Some byte
byte_back byte small =
    let high = digit_back (byte / 16) (omega arith) in
    let low = digit_back (byte % 16) (omega arith) in
    let same : 16 * (byte / 16) + byte % 16 ≡ byte = omega arith in
    rw (high, low) (ap Some same)

-- ---- parts

onto_both : (byte : ℕ) (part : Bytes) (rest : Option Bytes) → option_map (λ r. byte ∷ part ++ r) rest ≡ option_map (λ text. byte ∷ text) (option_map (λ r. part ++ r) rest)
onto_both byte part None = refl
onto_both byte part (Some rest) = refl

behind_none : (byte : ℕ) (part : Bytes) (rest : Option Bytes) → option_map (λ r. [] ++ r) (option_map (λ r. byte ∷ part ++ r) rest) ≡ option_map (λ text. byte ∷ text) (option_map (λ r. part ++ r) rest)
behind_none byte part None = refl
behind_none byte part (Some rest) = refl

plain_onto : (byte : ℕ) (parts : List Bytes) → 0 < length parts → unescaped_parts (onto_first byte parts) ≡ option_map (λ text. byte ∷ text) (unescaped_parts parts)
plain_onto byte [] some = absurd (omega arith)
plain_onto byte (part ∷ parts) some = onto_both byte part (joined (map unescaped_part parts))

escape_onto : (high low byte : ℕ) (parts : List Bytes) → 0 < length parts → byte_of high low ≡ Some byte
    → unescaped_parts ([] ∷ onto_first high (onto_first low parts)) ≡ option_map (λ text. byte ∷ text) (unescaped_parts parts)
escape_onto high low byte [] some e = absurd (omega arith)
escape_onto high low byte (part ∷ parts) some e = rw e (behind_none byte part (joined (map unescaped_part parts)))

some_part : (text : Bytes) → 0 < length (split text)
some_part text = omega (arith, length-slice_split (λ byte. byte == 37) text)

-- ---- texts

plain_is_no_mark : (byte : ℕ) → is_plain byte ≡ true → (byte == 37) ≡ false
plain_is_no_mark byte plain = not-true _ (and_parts (nat_le 33 byte && nat_le byte 126) _ plain).1

back : (text : Bytes) → All IsByte text → unescaped_parts (split (escaped text)) ≡ Some text
back [] bytes = refl
back (byte ∷ text) bytes =
    let rest = back text (All-tail IsByte byte text bytes) in
    let small = All-head IsByte byte text bytes in
    elim (cases_Bool (is_plain byte)) [
      | inl plain ↦
          let apart = plain_is_no_mark byte plain in
          let onto = plain_onto byte (split (escaped text)) (some_part (escaped text)) in
          rw (plain, apart) (onto ∙ ap (option_map (λ t. byte ∷ t)) rest)
      | inr other ↦
          let high = digit_is_no_mark (byte / 16) (omega arith) in
          let low = digit_is_no_mark (byte % 16) (omega arith) in
          let onto = escape_onto (digit_char (byte / 16)) (digit_char (byte % 16)) byte (split (escaped text)) (some_part (escaped text)) (byte_back byte small) in
          rw (other, high, low) (onto ∙ ap (option_map (λ t. byte ∷ t)) rest)
    ]

pub reads_back : (text : Bytes) → All IsByte text → unescaped (escaped text) ≡ Some text
unfolding unescaped
reads_back text bytes = back text bytes

-- ---- one word

byte_is_word : (byte : ℕ) → byte < 256 → list_all is_word_byte (escaped_byte byte) ≡ true
byte_is_word byte small = elim (cases_Bool (is_plain byte)) [
  | inl plain ↦
      let within : is_word_byte byte ≡ true = (and_parts (nat_le 33 byte && nat_le byte 126) _ plain).0 in
      rw (plain, within) refl
  | inr other ↦
      let high = digit_is_word (byte / 16) (omega arith) in
      let low = digit_is_word (byte % 16) (omega arith) in
      rw (other, high, low) refl
]

pub is_one_word : (text : Bytes) → All IsByte text → list_all is_word_byte (escaped text) ≡ true
is_one_word [] bytes = refl
is_one_word (byte ∷ text) bytes =
    let first = byte_is_word byte (All-head IsByte byte text bytes) in
    let rest = is_one_word text (All-tail IsByte byte text bytes) in
    list_all-append is_word_byte (escaped_byte byte) (escaped text) ∙ rw (first, rest) refl
