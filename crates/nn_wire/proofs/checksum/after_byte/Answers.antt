use Rattle.std.proofs.Common.{◌/◌, ◌%◌, sym, ap, ◌∙◌, bit_xor, arith}
use Rattle.nn_wire.specs.Crc32.{next_bits}
use Rattle.nn_wire.proofs.Crc32Lemmas.{with_byte-table}
use Rattle.nn_wire.proofs.checksum.after_byte.Goals as goal

pub returns : goal.returns
returns c =
    let r = c.args.register in
    let b = c.args.byte in
    ap (λ x. bit_xor x (r / 256)) (c.low_shifted.ensures ∙ ap (λ x. next_bits 8 (bit_xor r x % 256)) c.from.ensures) ∙ sym (with_byte-table r b (omega arith))
