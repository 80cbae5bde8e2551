use Rattle.std.proofs.Common.{◌≡◌, ◌*◌, ◌/◌, ◌^◌, ◌∷◌, drop, fold, bit_xor}
use Rattle.nn_wire.specs.Crc32.{with_byte}
use Rattle.nn_wire.proofs.checksum.after_chunk.Given as goal

-- what is done, with what the bytes to come make of nothing
abbrev pub invariant-later : goal.invariant-later
invariant-later l = bit_xor l.after (fold with_byte 0 (drop l.place l.chunk)) ≡ fold with_byte 0 (drop 4 l.chunk)

-- What is done, with what the bytes to come make of the rest of the register, but for the later bytes that are done already.
-- The first bytes have met the register, and zeros come in their place.
abbrev pub invariant-first : goal.invariant-first
invariant-first l = record {
  left : l.left ≡ l.initial.left / 2 ^ (8 * l.place);
  done : bit_xor (bit_xor l.after (fold with_byte l.left (drop l.place (0 ∷ 0 ∷ 0 ∷ 0 ∷ drop 4 l.chunk)))) (fold with_byte 0 (drop 4 l.chunk)) ≡ fold with_byte l.fn.register l.chunk;
}
