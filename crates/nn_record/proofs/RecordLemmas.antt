-- A record that is spelled is read again, and no spelling begins another.
use Rattle.std.proofs.Common.{◌≡◌, ℕ, zero, suc, ◌+◌, ◌-◌, ◌*◌, ◌/◌, ◌%◌, ◌^◌, ◌<◌, ◌≤◌, bit_xor, fold, List, [], ◌∷◌, ◌++◌, length, take, Option, Some, unwrap_or, refl, sym, ap, ◌∙◌, append_assoc, arith, length-append}
use Rattle.std.specs.Int.{w32, w64}
use Rattle.std.proofs.lemmas.Bool.{le-ltb, le-leb, eq-eqb}
use Rattle.std.proofs.lemmas.List.{take_at, append-nil}
use Rattle.std.proofs.lemmas.Nat.{xor_lt}
use Rattle.nn_base.specs.Limits.{most_record, IsLong}
use Rattle.nn_wire.specs.Crc32.{polynomial, all_ones, next_bit, next_bits, with_byte, crc32_of}
use Rattle.nn_record.specs.declared.op.Op.TheVariants.{StartLogSegment, EndLogSegment}
use Rattle.nn_record.specs.declared.transaction.Record.{Record}
use Rattle.nn_record.specs.Ops.{opcode_of}
use Rattle.nn_record.specs.Spelling.{u32, u64, body_bytes, unsealed, sealed, spelling, IsRecord, NoneBeginsAnother}
use Rattle.nn_record.specs.Reading.{byte_at, number_at, text_at}
use Rattle.nn_record.specs.RecordReading.{id_at, rest_at, frame_at, op_at, record_at}
use Rattle.nn_record.proofs.FieldLemmas.{IsBytes, IsBytes-front}
use Rattle.nn_record.proofs.FrameLemmas.{length-u32, length-unsealed}
use Rattle.nn_record.proofs.AgainLemmas.{u32_again, u64_again, text_again, long_again}
use Rattle.nn_record.proofs.OpAgainLemmas.{op_again}

-- ---- the checksum of bytes has four of them

next_bit_small : (r : ℕ) → r < 2 ^ 32 → next_bit r < 2 ^ 32
unfolding next_bit
next_bit_small r small = xor_lt 32 (r / 2) (r % 2 * polynomial) (omega arith) (omega arith)

next_bits_small : (k r : ℕ) → r < 2 ^ 32 → next_bits k r < 2 ^ 32
unfolding next_bits
next_bits_small zero r small = small
next_bits_small (suc k) r small = next_bits_small k (next_bit r) (next_bit_small r small)

with_byte_small : (r b : ℕ) → r < 2 ^ 32 → b < 256 → with_byte r b < 2 ^ 32
unfolding with_byte
with_byte_small r b small byte = next_bits_small 8 (bit_xor r b) (xor_lt 32 r b small (omega arith))

register_small : (r : ℕ) (bytes : List ℕ) → r < 2 ^ 32 → IsBytes bytes → fold with_byte r bytes < 2 ^ 32
register_small r [] small fits = small
register_small r (b ∷ bs) small fits = register_small (with_byte r b) bs (with_byte_small r b small (fits 0)) (λ i. fits (suc i))

pub crc32_small : (bytes : List ℕ) → IsBytes bytes → crc32_of bytes < 2 ^ 32
unfolding crc32_of
crc32_small bytes fits = xor_lt 32 (fold with_byte all_ones bytes) all_ones (register_small all_ones bytes (omega arith) fits) (omega arith)

-- ---- a record's parts, one after the other

unsealed_parts : (opcode id : ℕ) (body rest : List ℕ) → unsealed opcode id body ++ rest ≡ opcode ∷ (u32 (4 + 8 + length body) ++ (u64 id ++ (body ++ rest)))
unfolding unsealed
unsealed_parts opcode id body rest = simp append_assoc refl

frame_parts : (opcode id : ℕ) (body rest : List ℕ) → sealed (unsealed opcode id body) ++ rest ≡ opcode ∷ (u32 (4 + 8 + length body) ++ (u64 id ++ (body ++ (u32 (crc32_of (unsealed opcode id body)) ++ rest))))
unfolding sealed
frame_parts opcode id body rest =
    let text = unsealed opcode id body in
    append_assoc text (u32 (crc32_of text)) rest ∙ unsealed_parts opcode id body (u32 (crc32_of text) ++ rest)

pub length-spelling : (r : Record) → length (spelling r) ≡ 17 + length (body_bytes r.op)
unfolding spelling sealed
length-spelling r =
    let text = unsealed (opcode_of r.op) r.id (body_bytes r.op) in
    omega (arith, length-append text (u32 (crc32_of text)), length-unsealed (opcode_of r.op) r.id (body_bytes r.op), length-u32 (crc32_of text))

-- the records that begin and end a segment have no body
pub length-start : (id : ℕ) → length (spelling (record { id = id; op = StartLogSegment })) ≡ 17
unfolding body_bytes
length-start id = length-spelling (record { id = id; op = StartLogSegment })

pub length-end : (id : ℕ) → length (spelling (record { id = id; op = EndLogSegment })) ≡ 17
unfolding body_bytes
length-end id = length-spelling (record { id = id; op = EndLogSegment })

-- ---- what is spelled is read again

id_again : (id : ℕ) (rest : List ℕ) → 1 ≤ id → IsLong id → id_at (u64 id ++ rest) ≡ Some (id, rest)
unfolding id_at
id_again id rest first last = rw (long_again id rest last, le-leb 1 id first) refl

rest_again : (body rest : List ℕ) → 4 + 8 + length body ≤ most_record - 5 → rest_at (4 + 8 + length body) (body ++ rest) ≡ Some (body, rest)
unfolding rest_at
rest_again body rest short =
    rw (le-ltb (4 + 8 + length body) 12 (omega arith), le-ltb (most_record - 5) (4 + 8 + length body) short, text_again body rest (4 + 8 + length body - 12) (omega arith)) refl

frame_again : (opcode id : ℕ) (body rest : List ℕ) → 4 + 8 + length body ≤ most_record - 5 → 1 ≤ id → IsLong id → crc32_of (unsealed opcode id body) < 2 ^ 32 → frame_at (sealed (unsealed opcode id body) ++ rest) ≡ Some ((opcode, id, body), rest)
unfolding frame_at byte_at
frame_again opcode id body rest short first last small =
    let text = unsealed opcode id body in
    let len = 4 + 8 + length body in
    let r4 = u32 (crc32_of text) ++ rest in
    let r3 = body ++ r4 in
    let r2 = u64 id ++ r3 in
    let r1 = u32 len ++ r2 in
    let front : take (1 + len) (opcode ∷ r1) ≡ text = ap (take (1 + len)) (sym (unsealed_parts opcode id body r4)) ∙ take_at text r4 (1 + len) (omega (arith, length-unsealed opcode id body)) in
    ap frame_at (frame_parts opcode id body rest)
    ∙ rw (u32_again len r2 (omega arith), id_again id r3 first last, rest_again body r4 short, u32_again (crc32_of text) rest small, front, eq-eqb (crc32_of text) (crc32_of text) refl) refl

pub record_again : (r : Record) (rest : List ℕ) → IsRecord r → IsBytes (spelling r ++ rest) → record_at (spelling r ++ rest) ≡ Some (r, rest)
unfolding record_at spelling sealed
record_again r rest is fits =
    let body = body_bytes r.op in
    let text = unsealed (opcode_of r.op) r.id body in
    let small : crc32_of text < 2 ^ 32 = crc32_small text (IsBytes-front text (u32 (crc32_of text)) (IsBytes-front (sealed text) rest fits)) in
    let whole : op_at (opcode_of r.op) body ≡ Some (r.op, []) = ap (op_at (opcode_of r.op)) (sym (append-nil body)) ∙ op_again r.op [] is.op is.held in
    rw (frame_again (opcode_of r.op) r.id body rest (omega (arith, length-spelling r, is.size)) is.first is.last small, whole) refl

-- ---- no spelling begins another

abbrev field : {A : Type 0} → A → List ℕ → Option (A × List ℕ)
field x rest = Some (x, rest)

one_field : {A : Type 0} (x y : A) (r s : List ℕ) → field x r ≡ field y s → (x ≡ y) × (r ≡ s)
one_field {A = A} x y r s e =
    let pair : A × List ℕ = (x, r) in
    let p = ap (λ (o : Option (A × List ℕ)). unwrap_or o pair) e in
    (ap (λ (z : A × List ℕ). z.0) p, ap (λ (z : A × List ℕ). z.1) p)

pub none_begins_another : NoneBeginsAnother
unfolding spelling
none_begins_another r s a b r_is s_is e =
    let r_body = body_bytes r.op in
    let s_body = body_bytes s.op in
    let r_text = unsealed (opcode_of r.op) r.id r_body in
    let s_text = unsealed (opcode_of s.op) s.id s_body in
    let r4 = u32 (crc32_of r_text) ++ a in
    let s4 = u32 (crc32_of s_text) ++ b in
    let r1 = u32 (4 + 8 + length r_body) ++ (u64 r.id ++ (r_body ++ r4)) in
    let s1 = u32 (4 + 8 + length s_body) ++ (u64 s.id ++ (s_body ++ s4)) in
    let parts : opcode_of r.op ∷ r1 ≡ opcode_of s.op ∷ s1 = sym (frame_parts (opcode_of r.op) r.id r_body a) ∙ e ∙ frame_parts (opcode_of s.op) s.id s_body b in
    let opcode : opcode_of r.op ≡ opcode_of s.op = cc in
    let after_opcode : r1 ≡ s1 = cc in
    let len = one_field _ _ _ _ (sym (u32_again (4 + 8 + length r_body) (u64 r.id ++ (r_body ++ r4)) (omega (arith, length-spelling r, r_is.size))) ∙ ap (number_at w32) after_opcode ∙ u32_again (4 + 8 + length s_body) (u64 s.id ++ (s_body ++ s4)) (omega (arith, length-spelling s, s_is.size))) in
    let id = one_field _ _ _ _ (sym (u64_again r.id (r_body ++ r4) (omega (arith, r_is.last))) ∙ ap (number_at w64) len.1 ∙ u64_again s.id (s_body ++ s4) (omega (arith, s_is.last))) in
    let body = one_field _ _ _ _ (sym (text_again r_body r4 (length r_body) refl) ∙ ap (text_at (length r_body)) id.1 ∙ text_again s_body s4 (length r_body) (omega (arith, len.0))) in
    let text : r_text ≡ s_text = λ i. unsealed (opcode i) (id.0 i) (body.0 i) in
    let rest = one_field _ _ _ _ (sym (text_again (u32 (crc32_of r_text)) a 4 (length-u32 (crc32_of r_text))) ∙ ap (text_at 4) body.1 ∙ text_again (u32 (crc32_of s_text)) b 4 (length-u32 (crc32_of s_text))) in
    let op = one_field _ _ _ _ (sym (op_again r.op [] r_is.op r_is.held) ∙ (λ i. op_at (opcode i) (body.0 i ++ [])) ∙ op_again s.op [] s_is.op s_is.held) in
    ((λ i. record { id = id.0 i; op = op.0 i }), rest.1)
