-- What is spelled so is read again, whatever follows: the fields.
use Rattle.std.proofs.Common.{◌≡◌, ℕ, ◌-◌, ◌^◌, ◌<◌, false, ltb, List, ◌++◌, length, Option, Some, None, refl, ap, ◌∙◌, append_assoc, arith, length-append}
use Rattle.std.specs.Prelude.{IfSome}
use Rattle.std.specs.Int.{Width, w16, w32, w64, byte_len, from_be_bytes, to_be_bytes}
use Rattle.std.proofs.lemmas.Bool.{le-ltb, lt-ltb, le-leb}
use Rattle.std.proofs.lemmas.List.{take_at, drop_at}
use Rattle.std.proofs.lemmas.Nat.{from_be_bytes-to_be_bytes_2, from_be_bytes-to_be_bytes_4, from_be_bytes-to_be_bytes_8}
use Rattle.nn_base.specs.Paths.{Names, IsPath, text_of}
use Rattle.nn_base.specs.Limits.{IsLong, most_label, most_mode}
use Rattle.nn_base.specs.Labels.{IsLabel}
use Rattle.nn_record.specs.Ops.{IsMode}
use Rattle.nn_record.specs.Spelling.{u16, u32, u64, path, name, bound}
use Rattle.nn_record.specs.Reading.{byte_at, number_at, text_at, long_at, mode_at, path_at, name_at, bound_at}
use Rattle.nn_record.proofs.PathLemmas.{path_in_again, text_small}

number_again : (w : Width) (text : List ℕ) (n : ℕ) (rest : List ℕ) → length text ≡ byte_len w → from_be_bytes w text ≡ n → number_at w (text ++ rest) ≡ Some (n, rest)
unfolding number_at
number_again w text n rest len is =
    let long : ltb (length (text ++ rest)) (byte_len w) ≡ false = le-ltb _ _ (omega (arith, length-append text rest, len)) in
    rw (long, take_at text rest (byte_len w) len, drop_at text rest (byte_len w) len, is) refl

pub u16_again : (n : ℕ) (rest : List ℕ) → n < 2 ^ 16 → number_at w16 (u16 n ++ rest) ≡ Some (n, rest)
unfolding u16
u16_again n rest small = number_again w16 (to_be_bytes w16 n) n rest refl (from_be_bytes-to_be_bytes_2 n small)

pub u32_again : (n : ℕ) (rest : List ℕ) → n < 2 ^ 32 → number_at w32 (u32 n ++ rest) ≡ Some (n, rest)
unfolding u32
u32_again n rest small = number_again w32 (to_be_bytes w32 n) n rest refl (from_be_bytes-to_be_bytes_4 n small)

pub u64_again : (n : ℕ) (rest : List ℕ) → n < 2 ^ 64 → number_at w64 (u64 n ++ rest) ≡ Some (n, rest)
unfolding u64
u64_again n rest small = number_again w64 (to_be_bytes w64 n) n rest refl (from_be_bytes-to_be_bytes_8 n small)

pub text_again : (text rest : List ℕ) (len : ℕ) → length text ≡ len → text_at len (text ++ rest) ≡ Some (text, rest)
unfolding text_at
text_again text rest len is =
    let long : ltb (length (text ++ rest)) len ≡ false = le-ltb _ _ (omega (arith, length-append text rest, is)) in
    rw (long, take_at text rest len is, drop_at text rest len is) refl

pub long_again : (n : ℕ) (rest : List ℕ) → IsLong n → long_at (u64 n ++ rest) ≡ Some (n, rest)
unfolding long_at
long_again n rest small = rw (u64_again n rest (omega arith), lt-ltb n (2 ^ 63) small) refl

pub mode_again : (n : ℕ) (rest : List ℕ) → IsMode n → mode_at (u16 n ++ rest) ≡ Some (n, rest)
unfolding mode_at
mode_again n rest small = rw (u16_again n rest (omega arith), le-leb n most_mode small) refl

pub path_again : (names : Names) (rest : List ℕ) → IsPath names → path_at (path names ++ rest) ≡ Some (names, rest)
unfolding path_at path
path_again names rest is =
    let text = text_of names in
    ap path_at (append_assoc (u16 (length text)) text rest) ∙ rw (u16_again (length text) (text ++ rest) (omega (arith, text_small names is)), text_again text rest (length text) refl, path_in_again names is) refl

pub name_again : (label rest : List ℕ) → IsLabel label → name_at (name label ++ rest) ≡ Some (label, rest)
unfolding name_at byte_at name
name_again label rest is = rw (text_again label rest (length label) refl, le-leb 1 (length label) is.0, le-leb (length label) most_label is.1) refl

pub bound_again : (most : Option ℕ) (rest : List ℕ) → IfSome most IsLong → bound_at (bound most ++ rest) ≡ Some (most, rest)
unfolding bound_at bound
bound_again None rest is = rw (u64_again (2 ^ 64 - 1) rest (omega arith)) refl
bound_again (Some n) rest is = rw (u64_again n rest (omega arith), lt-ltb n (2 ^ 63) is) refl
