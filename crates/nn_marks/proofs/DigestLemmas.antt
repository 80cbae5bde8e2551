-- Where the parts of an MD5 file stand.
use Rattle.std.proofs.Common.{◌≡◌, ℕ, ◌%◌, List, ◌++◌, length, take, drop, Ok, sym, ap, ◌∙◌, arith, append_assoc, length-append}
use Rattle.std.specs.Prelude.{codes}
use Rattle.std.proofs.lemmas.List.{take_at, drop_at}
use Rattle.hex.specs.Hex.{encode_lower, lower_digits, IsBytes, decode_sized}
use Rattle.hex.proofs.HexLemmas.{length-encode_with, decode_of-encode_lower, decode_of-even}
use Rattle.nn_base.specs.FileText.{id_text}
use Rattle.nn_base.proofs.FileTextLemmas.{length-id_text}
use Rattle.nn_marks.specs.Digest.{md5_text_of}

pub length-encode_lower : (digest : List ℕ) → length digest ≡ 16 → length (encode_lower digest) ≡ 32
length-encode_lower digest h = omega (arith, length-encode_with lower_digits digest, h)

pub record Md5Parts (bytes digest : List ℕ) (id : ℕ) : Type 0 where
  pub size : length bytes ≡ 62
  pub hex : take 32 bytes ≡ encode_lower digest
  pub id_digits : take 19 (drop 10 (drop 32 bytes)) ≡ id_text id

-- what stands in the text
pub md5_parts : (bytes digest : List ℕ) (id : ℕ) → length digest ≡ 16 → bytes ≡ md5_text_of digest id → Md5Parts bytes digest id
md5_parts bytes digest id h e =
    let hex = encode_lower digest in
    let long = length-encode_lower digest h in
    let rest = codes " *fsimage_" ++ (id_text id ++ codes "\n") in
    let whole : bytes ≡ hex ++ rest = e in
    let behind : drop 32 bytes ≡ rest = ap (drop 32) whole ∙ drop_at hex rest 32 long in
    let digits : drop 10 (drop 32 bytes) ≡ id_text id ++ codes "\n" = ap (drop 10) behind in
    record {
      size = omega (arith, ap length whole, length-append hex rest, long, length-append (id_text id) (codes "\n"), length-id_text id);
      hex = ap (take 32) whole ∙ take_at hex rest 32 long;
      id_digits = ap (take 19) digits ∙ take_at (id_text id) (codes "\n") 19 (length-id_text id);
    }

-- the digits of a digest decode to it
pub decodes : (text digest : List ℕ) → length digest ≡ 16 → IsBytes digest → text ≡ encode_lower digest → decode_sized text 16 ≡ Ok digest
decodes text digest h bytes e =
    let long = length-encode_lower digest h in
    let even : length (encode_lower digest) % 2 ≡ 0 = ap (λ n. n % 2) long in
    rw (e, long) (sym (decode_of-even (encode_lower digest) even) ∙ decode_of-encode_lower digest bytes)

-- four writes one behind the other
pub four_parts : (hex mark digits one two three text : List ℕ) → one ≡ hex → two ≡ one ++ mark → three ≡ two ++ digits → text ≡ three ++ codes "\n"
    → text ≡ hex ++ (mark ++ (digits ++ codes "\n"))
four_parts hex mark digits one two three text e f g h =
    h ∙ ap (λ t. t ++ codes "\n") (g ∙ ap (λ t. t ++ digits) (f ∙ ap (λ t. t ++ mark) e))
    ∙ append_assoc (hex ++ mark) digits (codes "\n") ∙ append_assoc hex mark (digits ++ codes "\n")
