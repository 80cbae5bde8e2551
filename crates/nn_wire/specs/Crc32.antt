-- The checksum CRC-32 of a text, by one bit at a time: that of Ethernet (IEEE 802.3), gzip (RFC 1952) and `java.util.zip.CRC32`.
use Rattle.std.specs.Prelude.{ℕ, zero, suc, ◌*◌, ◌/◌, ◌%◌, List, fold, bit_xor}

-- the divisor x^32 + x^26 + x^23 + x^22 + x^16 + x^12 + x^11 + x^10 + x^8 + x^7 + x^5 + x^4 + x^2 + x + 1 without its first term, x^31 in the lowest bit
abbrev pub polynomial : ℕ
polynomial = 0xEDB8_8320

-- the start of the register, and what is added to it at the end
abbrev pub all_ones : ℕ
all_ones = 0xFFFF_FFFF

-- One bit on: the register moves down by a place, and where a 1 falls out the divisor is taken away, without borrows.
unfoldable pub next_bit : ℕ → ℕ
next_bit register = bit_xor (register / 2) (register % 2 * polynomial)

-- as many bits on
unfoldable pub next_bits : ℕ → ℕ → ℕ
next_bits zero register = register
next_bits (suc bits) register = next_bits bits (next_bit register)

-- A byte comes in at the low end, lowest bit first.
unfoldable pub with_byte : ℕ → ℕ → ℕ
with_byte register byte = next_bits 8 (bit_xor register byte)

unfoldable pub crc32_of : List ℕ → ℕ
crc32_of bytes = bit_xor (fold with_byte all_ones bytes) all_ones
