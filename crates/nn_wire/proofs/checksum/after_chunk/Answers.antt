use Rattle.std.proofs.Common.{◌≡◌, ◌+◌, ◌-◌, ◌*◌, ◌/◌, ◌%◌, ◌^◌, ◌∷◌, fold, drop, length, length-drop, bit_xor, sym, ap, ◌∙◌, arith}
use Rattle.std.specs.Int.Bits.{xor_zero_r}
use Rattle.std.proofs.lemmas.List.{drop_all}
use Rattle.std.proofs.lemmas.Nat.{shr-shr}
use Rattle.nn_wire.specs.Crc32.{next_bits, with_byte}
use Rattle.nn_wire.proofs.Crc32Lemmas.{chunk_step, zero_at, xor_around, xor_twice}
use Rattle.nn_wire.proofs.checksum.after_chunk.Goals as goal

pub later-preserved : goal.later-preserved
later-preserved c =
    let chunk = c.args.chunk.now in
    let p = c.later.place in
    ap (λ x. bit_xor (bit_xor c.later.after x) (fold with_byte 0 (drop (p + 1) chunk))) c.low_shifted-after.ensures
    ∙ chunk_step c.later.after 0 c.from.result p (15 - p + 1) chunk (omega arith) c.from.ensures (omega (arith, c.from.ensures, c.fits-chunk p)) (omega arith)
    ∙ c.later.invariant

pub first-init : goal.first-init
first-init c =
    let r = c.args.register in
    let chunk = c.args.chunk.now in
    let after = c.later.after in
    let later = fold with_byte 0 (drop 4 chunk) in
    let done : after ≡ later =
    sym (xor_zero_r after) ∙ ap (λ t. bit_xor after (fold with_byte 0 t)) (sym (drop_all c.later.place chunk (omega arith))) ∙ c.later.invariant in
    record {
      left = omega arith;
      done = ap (λ x. bit_xor (bit_xor after x) later) c.met-left.ensures ∙ ap (λ x. bit_xor (bit_xor x (fold with_byte r chunk)) later) done ∙ xor_around _ _;
    }

pub first-preserved : goal.first-preserved
first-preserved c =
    let chunk = 0 ∷ 0 ∷ 0 ∷ 0 ∷ drop 4 c.args.chunk.now in
    let p = c.first.place in
    let left = c.first.left in
    let later = fold with_byte 0 (drop 4 c.args.chunk.now) in
    let bits : 8 * p + 8 ≡ 8 * (p + 1) = omega arith in
    let low : left % 256 ≡ bit_xor left 0 % 256 = ap (λ x. x % 256) (sym (xor_zero_r left)) in
    let long : 16 ≡ length chunk = omega (arith, length-drop 4 c.args.chunk.now) in
    record {
      left = ap (λ x. x / 256) c.first.invariant.left ∙ shr-shr c.met-left.result (8 * p) 8 ∙ ap (λ k. c.met-left.result / 2 ^ k) bits;
      done =
          ap (λ x. bit_xor (bit_xor (bit_xor c.first.after x) (fold with_byte (left / 256) (drop (p + 1) chunk))) later) (c.low_shifted-after-in-first.ensures ∙ ap (next_bits (8 * (15 - p + 1))) low)
          ∙ ap (λ x. bit_xor x later) (chunk_step c.first.after left 0 p (15 - p + 1) chunk (omega (arith, long)) (zero_at p (drop 4 c.args.chunk.now) (omega arith)) (omega arith) (omega (arith, long)))
          ∙ c.first.invariant.done;
    }

pub returns : goal.returns
returns c =
    let chunk = c.args.chunk.now in
    let after = c.first.after in
    let later = fold with_byte 0 (drop 4 chunk) in
    let place : c.first.place ≡ 4 = omega arith in
    let left : c.first.left ≡ 0 = omega (arith, c.first.invariant.left ∙ ap (λ p. c.met-left.result / 2 ^ (8 * p)) place) in
    sym (xor_twice after later) ∙ sym (λ i. bit_xor (bit_xor after (fold with_byte (left i) (drop (place i) (0 ∷ 0 ∷ 0 ∷ 0 ∷ drop 4 chunk)))) later) ∙ c.first.invariant.done
