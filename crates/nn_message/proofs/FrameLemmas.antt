-- The end of an image tells where it begins: the last four bytes count it.
use Rattle.std.proofs.Common.{◌≡◌, ℕ, ◌+◌, ◌^◌, ◌<◌, ◌≤◌, List, ◌++◌, length, take, drop, refl, sym, ap, ◌∙◌, append_assoc, arith, length-append}
use Rattle.std.proofs.lemmas.List.{take_at, drop_at, append_cancel_left}
use Rattle.std.proofs.lemmas.Nat.{from_be_bytes-to_be_bytes_4}
use Rattle.std.specs.Int.{w32, to_be_bytes, from_be_bytes}
use Rattle.nn_base.specs.Paths.{Bytes}
use Rattle.nn_base.specs.Limits.{most_image}
use Rattle.nn_wire.specs.Varint.{varint}
use Rattle.nn_wire.proofs.SpellingLemmas.{same_varint}
use Rattle.nn_message.specs.Spelling.{delimited}
use Rattle.nn_message.specs.Frame.{magic, end, framed}

-- two parts each, the first as long as the other first
pub same_parts : {X : Type 0} (p q x y : List X) → length p ≡ length q → p ++ x ≡ q ++ y → (p ≡ q) × (x ≡ y)
same_parts p q x y long e = (
  sym (take_at p x (length q) long) ∙ ap (take (length q)) e ∙ take_at q y (length q) refl,
  sym (drop_at p x (length q) long) ∙ ap (drop (length q)) e ∙ drop_at q y (length q) refl,
)

length_four : (n : ℕ) → length (to_be_bytes w32 n) ≡ 4
length_four n = refl

-- bytes that end in a summary, and what they have before the last four of them
pub record Ends (front text summary : Bytes) (len : ℕ) : Type 0 where
  pub before : front ≡ text ++ delimited summary
  pub counted : len ≡ length (delimited summary)

pub ends : (bytes front text summary : Bytes) (len : ℕ) → length bytes ≤ most_image → len < 2 ^ 32 → bytes ≡ front ++ to_be_bytes w32 len → bytes ≡ text ++ end summary → Ends front text summary len
unfolding end
ends bytes front text summary len small fits split ended =
    let message = delimited summary in
    let size = length message in
    let whole : bytes ≡ (text ++ message) ++ to_be_bytes w32 size = ended ∙ sym (append_assoc text message (to_be_bytes w32 size)) in
    let few : size < 2 ^ 32 = omega (arith, ap length whole, length-append (text ++ message) (to_be_bytes w32 size), length-append text message) in
    let counted : length front ≡ length (text ++ message) = omega (arith, ap length whole, ap length split, length-append (text ++ message) (to_be_bytes w32 size), length-append front (to_be_bytes w32 len), length_four size, length_four len) in
    let parts = same_parts front (text ++ message) (to_be_bytes w32 len) (to_be_bytes w32 size) counted (sym split ∙ whole) in
    record {
      before = parts.0;
      counted = sym (from_be_bytes-to_be_bytes_4 len fits) ∙ ap (from_be_bytes w32) parts.1 ∙ from_be_bytes-to_be_bytes_4 size few;
    }

-- the place where the summary begins
pub end_within : (front text summary : Bytes) (len : ℕ) → Ends front text summary len → len ≤ length front
end_within front text summary len is = omega (arith, ap length is.before, length-append text (delimited summary), is.counted)

pub end_place : (front text summary : Bytes) (len at : ℕ) → Ends front text summary len → at + len ≡ length front → (take at front ≡ text) × (drop at front ≡ delimited summary)
end_place front text summary len at is place =
    let begins : length text ≡ at = omega (arith, ap length is.before, length-append text (delimited summary), is.counted, place) in
    (ap (take at) is.before ∙ take_at text (delimited summary) at begins, ap (drop at) is.before ∙ drop_at text (delimited summary) at begins)

-- ---- bytes have one frame

-- a message that is delimited is known by what was made of it
pub one_delimited : (m n : Bytes) → length m < 2 ^ 64 → length n < 2 ^ 64 → delimited m ≡ delimited n → m ≡ n
unfolding delimited
one_delimited m n m_fits n_fits e = (same_varint (length m) (length n) m n m_fits n_fits e).1

pub framed_few : (text summary : Bytes) → 8 + length text + length summary ≤ length (framed text summary)
unfolding framed end delimited
framed_few text summary =
    let message = varint (length summary) ++ summary in
    let behind = to_be_bytes w32 (length message) in
    omega (arith, length-append (magic ++ text) (message ++ behind), length-append magic text, length-append message behind, length-append (varint (length summary)) summary)

pub one_frame : (text other summary message : Bytes) → length (framed text summary) ≤ most_image → framed text summary ≡ framed other message → (text ≡ other) × (summary ≡ message)
unfolding framed end
one_frame text other summary message small e =
    let f : magic ++ (text ++ end summary) ≡ magic ++ (other ++ end message) = sym (append_assoc magic text (end summary)) ∙ e ∙ append_assoc magic other (end message) in
    let behind = append_cancel_left magic (text ++ end summary) (other ++ end message) f in
    let front = text ++ delimited summary in
    let size = length (delimited summary) in
    let split : text ++ end summary ≡ front ++ to_be_bytes w32 size = sym (append_assoc text (delimited summary) (to_be_bytes w32 size)) in
    let few = framed_few text summary in
    let also = framed_few other message in
    let same_size = ap length e in
    let whole : length (framed text summary) ≡ 8 + (length front + 4) = omega (
      arith,
      length-append (magic ++ text) (end summary),
      length-append magic text,
      length-append (delimited summary) (to_be_bytes w32 size),
      length-append text (delimited summary),
      length_four size,
    ) in
    let front_size = length-append text (delimited summary) in
    let first : length (text ++ end summary) ≤ most_image = omega (arith, ap length split, length-append front (to_be_bytes w32 size), length_four size, whole) in
    let is = ends (text ++ end summary) front other message size first (omega arith) split behind in
    let place = end_place front other message size (length text) is (omega (arith, front_size)) in (
      sym (take_at text (delimited summary) (length text) refl) ∙ place.0,
      one_delimited summary message (omega arith) (omega arith) (sym (drop_at text (delimited summary) (length text) refl) ∙ place.1),
    )
