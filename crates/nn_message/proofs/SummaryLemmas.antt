-- How long a varint is, a field, and a summary.
use Rattle.std.proofs.Common.{◌≡◌, ℕ, ◌+◌, ◌*◌, ◌/◌, ◌%◌, ◌≤◌, ◌<◌, ◌^◌, zero, suc, [], ◌∷◌, ◌++◌, length, ap, lit<, arith, length-append, Bool, true, false, nat_lt, if◌then◌else◌}
use Rattle.std.specs.Prelude.{codes}
use Rattle.std.proofs.lemmas.Bool.{lt-ltb}
use Rattle.nn_base.specs.Paths.{Bytes}
use Rattle.nn_wire.specs.Varint.{varint, spelled_within}
use Rattle.nn_wire.specs.Field.{varint_field, bytes_field}
use Rattle.nn_message.specs.declared.summary.Lengths.{Lengths}
use Rattle.nn_message.specs.Spelling.{delimited}
use Rattle.nn_message.specs.Frame.{Section, section_message, codec_field, sections_field, summary_message, places, named, summary_with}

pub spelled_few : (most n : ℕ) → length (spelled_within most n) ≤ most
unfolding spelled_within
spelled_few zero n = omega arith
spelled_few (suc most) n = by (nat_lt n 128) (spelled_few most (n / 128))
  where
    by : (b : Bool) → length (spelled_within most (n / 128)) ≤ most → length (if b then n ∷ [] else (n % 128 + 128) ∷ spelled_within most (n / 128)) ≤ suc most
    by true h = omega arith
    by false h = omega (arith, h)

-- a varint has at most ten bytes
pub varint_few : (n : ℕ) → length (varint n) ≤ 10
unfolding varint
varint_few n = spelled_few 10 n

-- and one byte below 128, as each key of a message has
spelled_once : (most n : ℕ) → n < 128 → length (spelled_within (suc most) n) ≡ 1
unfolding spelled_within
spelled_once most n small = ap (λ b. length (if b then n ∷ [] else (n % 128 + 128) ∷ spelled_within most (n / 128))) (lt-ltb n 128 small)

varint_once : (n : ℕ) → n < 128 → length (varint n) ≡ 1
unfolding varint
varint_once n small = spelled_once 9 n small

pub varint_field_few : (number value : ℕ) → number < 16 → length (varint_field number value) ≤ 11
varint_field_few number value known =
    let a = varint_once (8 * number) (omega arith) in
    let b = varint_few value in
    omega (arith, a, b, length-append (varint (8 * number)) (varint value))

pub bytes_field_few : (number : ℕ) (content : Bytes) → number < 16 → length (bytes_field number content) ≤ 11 + length content
bytes_field_few number content known =
    let a = varint_once (8 * number + 2) (omega arith) in
    let b = varint_few (length content) in
    omega (arith, a, b, length-append (varint (8 * number + 2)) (varint (length content) ++ content), length-append (varint (length content)) content)

pub delimited_few : (message : Bytes) → length (delimited message) ≤ 10 + length message
unfolding delimited
delimited_few message =
    let a = varint_few (length message) in
    omega (arith, a, length-append (varint (length message)) message)

section_few : (s : Section) → length (bytes_field 4 (section_message s)) ≤ 44 + length s.name
unfolding section_message
section_few s =
    let name = bytes_field 1 s.name in
    let len = varint_field 2 s.length in
    let offset = varint_field 3 s.offset in
    let a = bytes_field_few 1 s.name (lit< tt) in
    let b = varint_field_few 2 s.length (lit< tt) in
    let c = varint_field_few 3 s.offset (lit< tt) in
    let d = bytes_field_few 4 (name ++ len ++ offset) (lit< tt) in
    omega (arith, a, b, c, d, length-append (name ++ len) offset, length-append name len)

sections_few : (l : Lengths) → length (sections_field (places 8 (named l))) ≤ 210
unfolding sections_field places
sections_few l =
    let p : Section = record { name = codes "NS_INFO"; length = l.info; offset = 8 } in
    let q : Section = record { name = codes "STRING_TABLE"; length = l.strings; offset = 8 + l.info } in
    let r : Section = record { name = codes "INODE"; length = l.inodes; offset = 8 + l.info + l.strings } in
    let s : Section = record { name = codes "INODE_DIR"; length = l.directories; offset = 8 + l.info + l.strings + l.inodes } in
    let a = section_few p in
    let b = section_few q in
    let c = section_few r in
    let d = section_few s in
    let spelled : Section → Bytes = λ section. bytes_field 4 (section_message section) in
    omega (
      arith,
      a,
      b,
      c,
      d,
      length-append (spelled p) (spelled q ++ (spelled r ++ (spelled s ++ []))),
      length-append (spelled q) (spelled r ++ (spelled s ++ [])),
      length-append (spelled r) (spelled s ++ []),
      length-append (spelled s) [],
    )

pub summary_few : (layout : ℕ) (l : Lengths) → length (delimited (summary_message (summary_with layout l))) ≤ 242
unfolding summary_message codec_field summary_with
summary_few layout l =
    let version = varint_field 1 1 in
    let number = varint_field 2 layout in
    let sections = sections_field (places 8 (named l)) in
    let a = varint_field_few 1 1 (lit< tt) in
    let b = varint_field_few 2 layout (lit< tt) in
    let c = sections_few l in
    let d = delimited_few (version ++ number ++ [] ++ sections) in
    omega (arith, a, b, c, d, length-append (version ++ number ++ []) sections, length-append (version ++ number) [], length-append version number)

-- far below the 2^32 bytes that the last four bytes could tell
pub summary_is_small : (layout : ℕ) (l : Lengths) → length (delimited (summary_message (summary_with layout l))) < 2 ^ 32
summary_is_small layout l = let a = summary_few layout l in omega (arith, a)
