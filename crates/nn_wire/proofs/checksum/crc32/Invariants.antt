use Rattle.std.proofs.Common.{◌≡◌, length, drop, fold}
use Rattle.nn_wire.specs.Crc32.{all_ones, with_byte}
use Rattle.nn_wire.proofs.checksum.crc32.Given as goal

abbrev pub invariant-loop-chunk : goal.invariant-loop-chunk
invariant-loop-chunk l = fold with_byte l.register l.rest ≡ fold with_byte all_ones l.bytes

abbrev pub decreases-loop-chunk : goal.decreases-loop-chunk
decreases-loop-chunk l = length l.rest

abbrev pub invariant-loop-byte : goal.invariant-loop-byte
invariant-loop-byte l = fold with_byte l.register (drop l.byte-index l.byte-items) ≡ fold with_byte all_ones l.bytes
