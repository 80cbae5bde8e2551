use Rattle.std.proofs.Common.{◌≡◌, ◌+◌, ◌*◌, ◌∷◌, drop, fold, get_or, bit_xor, ap, ◌∙◌, arith}
use Rattle.nn_wire.specs.Crc32.{with_byte}
use Rattle.nn_wire.proofs.Crc32Lemmas.{met_four, front_four}
use Rattle.nn_wire.proofs.checksum.met.Goals as goal

pub returns : goal.returns
returns c =
    let r = c.args.register in
    let chunk = c.args.chunk.now in
    let byte = get_or chunk in
    let first : c.from_le_bytes.result ≡ byte 0 0 + 256 * (byte 1 0 + 256 * (byte 2 0 + 256 * byte 3 0)) = omega (arith, c.from_le_bytes.ensures) in
    ap (λ x. fold with_byte (bit_xor r x) (0 ∷ 0 ∷ 0 ∷ 0 ∷ drop 4 chunk)) first
    ∙ met_four r (byte 0 0) (byte 1 0) (byte 2 0) (byte 3 0) (drop 4 chunk) (c.fits-chunk 0) (c.fits-chunk 1) (c.fits-chunk 2) (c.fits-chunk 3)
    ∙ ap (fold with_byte r) (front_four chunk (omega arith))
