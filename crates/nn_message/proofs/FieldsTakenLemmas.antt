-- What stands at the front of a text, where a field was taken off it or none was.
use Rattle.std.proofs.Common.{◌≡◌, ◌≢◌, ℕ, ◌+◌, ◌*◌, ◌^◌, ◌<◌, ◌++◌, length, None, Some, sym, ap, ◌∙◌, arith, length-append}
use Rattle.nn_base.specs.Paths.{Bytes}
use Rattle.nn_wire.specs.Field.{varint_field, bytes_field}
use Rattle.nn_message.specs.Reading.{varint_field_at, bytes_field_at}
use Rattle.nn_message.proofs.FieldLemmas.{Spells-varint_field, Spells-bytes_field}

-- what is left is no longer than what there was
pub left_short : (text front rest : Bytes) → length text < 2 ^ 64 → text ≡ front ++ rest → length rest < 2 ^ 64
left_short text front rest small is = omega (arith, small, ap length is, length-append front rest)

pub number_found : (number value : ℕ) (text rest : Bytes) → 8 * number < 2 ^ 64 → varint_field_at number text ≡ Some (value, rest) → (value < 2 ^ 64) × (text ≡ varint_field number value ++ rest)
number_found number value text rest small read = (Spells-varint_field number small).exact text (value, rest) read

pub no_number : (number value : ℕ) (text after : Bytes) → 8 * number < 2 ^ 64 → length text < 2 ^ 64 → varint_field_at number text ≡ None → value < 2 ^ 64 → text ≢ varint_field number value ++ after
no_number number value text after small short read fits is =
    let few : length (varint_field number value ++ after) < 2 ^ 64 = omega (arith, short, ap length is) in
    let again = (Spells-varint_field number small).again value after fits tt few in
    let apart = sym read ∙ ap (varint_field_at number) is ∙ again in
    absurd cc

pub bytes_found : (number : ℕ) (text content rest : Bytes) → 8 * number + 2 < 2 ^ 64 → bytes_field_at number text ≡ Some (content, rest) → text ≡ bytes_field number content ++ rest
bytes_found number text content rest small read = ((Spells-bytes_field number small).exact text (content, rest) read).1

pub no_bytes : (number : ℕ) (text content after : Bytes) → 8 * number + 2 < 2 ^ 64 → length text < 2 ^ 64 → bytes_field_at number text ≡ None → text ≢ bytes_field number content ++ after
no_bytes number text content after small short read is =
    let few : length (bytes_field number content ++ after) < 2 ^ 64 = omega (arith, short, ap length is) in
    let again = (Spells-bytes_field number small).again content after tt tt few in
    let apart = sym read ∙ ap (bytes_field_at number) is ∙ again in
    absurd cc
