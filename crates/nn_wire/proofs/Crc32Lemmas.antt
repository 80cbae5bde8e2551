-- The register's step is linear over exclusive-or, so a byte may go by a table: what its eight bits come to was divided before.
use Rattle.std.proofs.Common.{List, [], ◌∷◌, fold, length, drop, get_or, length-drop, ◌≡◌, ℕ, zero, suc, ◌+◌, ◌*◌, ◌/◌, ◌%◌, ◌^◌, ◌<◌, ◌≤◌, refl, sym, ap, ◌∙◌, arith, bit_xor}
use Rattle.std.specs.Int.Bits.{xor_self, xor_assoc, xor_zero_r, xor_shifted}
use Rattle.std.proofs.Math.Nat.{pow-suc, zero-add, suc-add, mul-one, mul_assoc}
use Rattle.std.proofs.lemmas.Nat.{xor_comm, xor_shr, xor_mod}
use Rattle.std.proofs.lemmas.List.{at_drop_more}
use Rattle.nn_wire.specs.Crc32.{polynomial, next_bit, next_bits, with_byte}

-- ---- exclusive-or

xor_swap : (a b c : ℕ) → bit_xor a (bit_xor b c) ≡ bit_xor b (bit_xor a c)
xor_swap a b c = sym (xor_assoc a b c) ∙ ap (λ x. bit_xor x c) (xor_comm a b) ∙ xor_assoc b a c

pub xor_pairs : (a b c d : ℕ) → bit_xor (bit_xor a b) (bit_xor c d) ≡ bit_xor (bit_xor a c) (bit_xor b d)
xor_pairs a b c d = xor_assoc a b (bit_xor c d) ∙ ap (bit_xor a) (xor_swap b c d) ∙ sym (xor_assoc a c (bit_xor b d))

-- ---- one bit

divisor-xor : (a b : ℕ) → a < 2 → b < 2 → bit_xor a b * polynomial ≡ bit_xor (a * polynomial) (b * polynomial)
divisor-xor zero zero p q = refl
divisor-xor zero (suc zero) p q = refl
divisor-xor (suc zero) zero p q = refl
divisor-xor (suc zero) (suc zero) p q = refl
divisor-xor (suc (suc a)) b p q = absurd (omega arith)
divisor-xor zero (suc (suc b)) p q = absurd (omega arith)
divisor-xor (suc zero) (suc (suc b)) p q = absurd (omega arith)

pub next_bit-xor : (a b : ℕ) → next_bit (bit_xor a b) ≡ bit_xor (next_bit a) (next_bit b)
unfolding next_bit
next_bit-xor a b =
    let fallen : bit_xor a b % 2 * polynomial ≡ bit_xor (a % 2 * polynomial) (b % 2 * polynomial) = ap (λ x. x * polynomial) (xor_mod a b 1) ∙ divisor-xor (a % 2) (b % 2) (omega arith) (omega arith) in
    (λ i. bit_xor (xor_shr a b 1 i) (fallen i)) ∙ xor_pairs (a / 2) (b / 2) (a % 2 * polynomial) (b % 2 * polynomial)

next_bit-twice : (n : ℕ) → next_bit (n * 2) ≡ n
unfolding next_bit
next_bit-twice n =
    let half : n * 2 / 2 ≡ n = omega arith in
    let low : n * 2 % 2 ≡ 0 = omega arith in
    rw (half, low) (xor_zero_r n)

-- ---- several bits

pub next_bits-xor : (k a b : ℕ) → next_bits k (bit_xor a b) ≡ bit_xor (next_bits k a) (next_bits k b)
unfolding next_bits
next_bits-xor zero a b = refl
next_bits-xor (suc k) a b = ap (next_bits k) (next_bit-xor a b) ∙ next_bits-xor k (next_bit a) (next_bit b)

pub next_bits-add : (j k r : ℕ) → next_bits (j + k) r ≡ next_bits k (next_bits j r)
unfolding next_bits
next_bits-add zero k r = ap (λ n. next_bits n r) (zero-add k)
next_bits-add (suc j) k r = ap (λ n. next_bits n r) (suc-add j k) ∙ next_bits-add j k (next_bit r)

-- where only zeros fall out, nothing is taken away
pub next_bits-zeros : (k n : ℕ) → next_bits k (n * 2 ^ k) ≡ n
unfolding next_bits
next_bits-zeros zero n = mul-one n
next_bits-zeros (suc k) n =
    let twice : n * 2 ^ suc k ≡ n * 2 ^ k * 2 = ap (λ x. n * x) (pow-suc 2 k) ∙ sym (mul_assoc n (2 ^ k) 2) in
    ap (λ r. next_bits k (next_bit r)) twice ∙ ap (next_bits k) (next_bit-twice (n * 2 ^ k)) ∙ next_bits-zeros k n

-- ---- bytes

-- what eight bits make of a register: its upper bytes move down, and its lowest is divided
next_bits-byte : (r : ℕ) → next_bits 8 r ≡ bit_xor (next_bits 8 (r % 256)) (r / 256)
next_bits-byte r =
    let parts : r ≡ bit_xor (r / 256 * 2 ^ 8) (r % 256) = omega (arith, xor_shifted (r / 256) 8 (r % 256) (omega arith)) in
    ap (next_bits 8) parts ∙ next_bits-xor 8 (r / 256 * 2 ^ 8) (r % 256) ∙ xor_comm _ (next_bits 8 (r % 256)) ∙ ap (bit_xor (next_bits 8 (r % 256))) (next_bits-zeros 8 (r / 256))

pub with_byte-table : (r b : ℕ) → b < 256 → with_byte r b ≡ bit_xor (next_bits 8 (bit_xor r b % 256)) (r / 256)
unfolding with_byte
with_byte-table r b small =
    let none : b / 2 ^ 8 ≡ 0 = omega arith in
    let high : bit_xor r b / 256 ≡ r / 256 = xor_shr r b 8 ∙ ap (bit_xor (r / 256)) none ∙ xor_zero_r (r / 256) in
    next_bits-byte (bit_xor r b) ∙ ap (bit_xor (next_bits 8 (bit_xor r b % 256))) high

with_byte-xor : (x y b : ℕ) → with_byte (bit_xor x y) b ≡ bit_xor (next_bits 8 x) (with_byte y b)
unfolding with_byte
with_byte-xor x y b = ap (next_bits 8) (xor_assoc x y b) ∙ next_bits-xor 8 x (bit_xor y b)

-- a part of the register only moves on while the bytes meet the other part
fold-xor : (bs : List ℕ) (x y : ℕ) → fold with_byte (bit_xor x y) bs ≡ bit_xor (next_bits (8 * length bs) x) (fold with_byte y bs)
unfolding next_bits
fold-xor [] x y = refl
fold-xor (b ∷ bs) x y =
    let count : 8 * suc (length bs) ≡ 8 + 8 * length bs = omega arith in
    let moved : next_bits (8 * suc (length bs)) x ≡ next_bits (8 * length bs) (next_bits 8 x) = ap (λ n. next_bits n x) count ∙ next_bits-add 8 (8 * length bs) x in
    ap (λ r. fold with_byte r bs) (with_byte-xor x y b) ∙ fold-xor bs (next_bits 8 x) (with_byte y b) ∙ ap (λ r. bit_xor r (fold with_byte (with_byte y b) bs)) (sym moved)

-- The first byte of several: what it meets goes to the end at once, and the bytes after it meet what else the register holds.
pub fold-slice : (r b : ℕ) (bs : List ℕ) → b < 256 → fold with_byte r (b ∷ bs) ≡ bit_xor (next_bits (8 * suc (length bs)) (bit_xor r b % 256)) (fold with_byte (r / 256) bs)
fold-slice r b bs small =
    let low = bit_xor r b % 256 in
    let count : 8 + 8 * length bs ≡ 8 * suc (length bs) = omega arith in
    ap (λ x. fold with_byte x bs) (with_byte-table r b small) ∙ fold-xor bs (next_bits 8 low) (r / 256)
    ∙ ap (λ x. bit_xor x (fold with_byte (r / 256) bs)) (sym (next_bits-add 8 (8 * length bs) low) ∙ ap (λ n. next_bits n low) count)

-- one place of a chunk on, where n bytes are left with this one
pub chunk_step : (after left b p n : ℕ) (chunk : List ℕ) → p < length chunk → b ≡ get_or chunk p 0 → b < 256 → n + p ≡ length chunk
    → bit_xor (bit_xor after (next_bits (8 * n) (bit_xor left b % 256))) (fold with_byte (left / 256) (drop (p + 1) chunk)) ≡ bit_xor after (fold with_byte left (drop p chunk))
chunk_step after left b p n chunk within is small counts =
    let rest = drop (p + 1) chunk in
    let low = bit_xor left b % 256 in
    let count : n ≡ suc (length rest) = omega (arith, length-drop (p + 1) chunk) in
    let first : fold with_byte left (drop p chunk) ≡ fold with_byte left (b ∷ rest) = at_drop_more (fold with_byte left) chunk p 0 within ∙ ap (λ x. fold with_byte left (x ∷ rest)) (sym is) in
    xor_assoc after (next_bits (8 * n) low) (fold with_byte (left / 256) rest)
    ∙ ap (λ k. bit_xor after (bit_xor (next_bits (8 * k) low) (fold with_byte (left / 256) rest))) count
    ∙ ap (bit_xor after) (sym (fold-slice left b rest small) ∙ sym first)

-- what is taken in and again is gone
pub xor_around : (d f : ℕ) → bit_xor (bit_xor d f) d ≡ f
xor_around d f = ap (λ x. bit_xor x d) (xor_comm d f) ∙ xor_assoc f d d ∙ ap (bit_xor f) (xor_self d) ∙ xor_zero_r f

pub xor_twice : (a d : ℕ) → bit_xor (bit_xor a d) d ≡ a
xor_twice a d = xor_assoc a d d ∙ ap (bit_xor a) (xor_self d) ∙ xor_zero_r a

-- ---- several bytes at once

-- A byte that met the register together with others: they meet it when it has moved on.
met_one : (r a y : ℕ) (bs : List ℕ) → a < 256 → fold with_byte (bit_xor r (a + 256 * y)) (0 ∷ bs) ≡ fold with_byte (bit_xor (with_byte r a) y) bs
unfolding with_byte
met_one r a y bs small =
    let parts : a + 256 * y ≡ bit_xor (y * 2 ^ 8) a = omega (arith, xor_shifted y 8 a (omega arith)) in
    let apart : bit_xor r (a + 256 * y) ≡ bit_xor (y * 2 ^ 8) (bit_xor r a) = ap (bit_xor r) parts ∙ xor_swap r (y * 2 ^ 8) a in
    let one : with_byte (bit_xor r (a + 256 * y)) 0 ≡ bit_xor (with_byte r a) y =
    ap (next_bits 8) (xor_zero_r (bit_xor r (a + 256 * y)) ∙ apart) ∙ next_bits-xor 8 (y * 2 ^ 8) (bit_xor r a)
    ∙ ap (λ x. bit_xor x (next_bits 8 (bit_xor r a))) (next_bits-zeros 8 y) ∙ xor_comm y (next_bits 8 (bit_xor r a)) in
    ap (λ x. fold with_byte x bs) one

pub met_four : (r a b c d : ℕ) (bs : List ℕ) → a < 256 → b < 256 → c < 256 → d < 256
    → fold with_byte (bit_xor r (a + 256 * (b + 256 * (c + 256 * d)))) (0 ∷ 0 ∷ 0 ∷ 0 ∷ bs) ≡ fold with_byte r (a ∷ b ∷ c ∷ d ∷ bs)
met_four r a b c d bs la lb lc ld =
    let ra = with_byte r a in
    let rb = with_byte ra b in
    let rc = with_byte rb c in
    let last : d ≡ d + 256 * 0 = omega arith in
    met_one r a (b + 256 * (c + 256 * d)) (0 ∷ 0 ∷ 0 ∷ bs) la
    ∙ met_one ra b (c + 256 * d) (0 ∷ 0 ∷ bs) lb
    ∙ met_one rb c d (0 ∷ bs) lc
    ∙ ap (λ x. fold with_byte (bit_xor rc x) (0 ∷ bs)) last
    ∙ met_one rc d 0 bs ld
    ∙ ap (λ x. fold with_byte x bs) (xor_zero_r (with_byte rc d))

-- the first four of several
pub front_four : (bs : List ℕ) → 4 ≤ length bs → get_or bs 0 0 ∷ get_or bs 1 0 ∷ get_or bs 2 0 ∷ get_or bs 3 0 ∷ drop 4 bs ≡ bs
front_four (a ∷ b ∷ c ∷ d ∷ bs) long = refl
front_four [] long = absurd (omega (arith, long))
front_four (a ∷ []) long = absurd (omega (arith, long))
front_four (a ∷ b ∷ []) long = absurd (omega (arith, long))
front_four (a ∷ b ∷ c ∷ []) long = absurd (omega (arith, long))

-- a zero in the place of one of the first four
pub zero_at : (p : ℕ) (bs : List ℕ) → p < 4 → 0 ≡ get_or (0 ∷ 0 ∷ 0 ∷ 0 ∷ bs) p 0
zero_at zero bs few = refl
zero_at (suc zero) bs few = refl
zero_at (suc (suc zero)) bs few = refl
zero_at (suc (suc (suc zero))) bs few = refl
zero_at (suc (suc (suc (suc p)))) bs few = absurd (omega (arith, few))
