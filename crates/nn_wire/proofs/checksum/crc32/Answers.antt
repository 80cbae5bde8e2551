use Rattle.std.proofs.Common.{sym, ap, ◌∙◌, fold, bit_xor}
use Rattle.std.proofs.lemmas.List.{drop_all}
use Rattle.nn_wire.specs.Crc32.{all_ones, with_byte, crc32_of}
use Rattle.nn_wire.proofs.checksum.crc32.Goals as goal

pub returns : goal.returns
unfolding crc32_of
returns c = ap (λ r. bit_xor r all_ones) (ap (fold with_byte c.loop-byte.register) (sym (drop_all c.loop-byte.byte-index c.loop-chunk.rest.now c.loop-byte-test.false)) ∙ c.loop-byte.invariant)
