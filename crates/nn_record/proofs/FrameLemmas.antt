-- The parts of a record make its text.
use Rattle.std.proofs.Common.{◌≡◌, ℕ, ◌+◌, ◌-◌, ◌≤◌, List, ◌∷◌, ◌++◌, length, take, refl, sym, ap, subst, ◌∙◌, append_assoc, arith, length-append}
use Rattle.std.proofs.lemmas.List.{take_at}
use Rattle.nn_base.specs.Limits.{most_record, IsLong}
use Rattle.nn_wire.specs.Crc32.{crc32_of}
use Rattle.nn_record.specs.Spelling.{u32, u64, unsealed, sealed, BeginsWithFrame}

pub length-u32 : (n : ℕ) → length (u32 n) ≡ 4
unfolding u32
length-u32 n = refl

pub length-u64 : (n : ℕ) → length (u64 n) ≡ 8
unfolding u64
length-u64 n = refl

-- a text in front, and then another
pub then : (bytes a rest text after : List ℕ) → bytes ≡ a ++ rest → rest ≡ text ++ after → bytes ≡ (a ++ text) ++ after
then bytes a rest text after first second = first ∙ ap (λ t. a ++ t) second ∙ sym (append_assoc a text after)

pub length-unsealed : (opcode id : ℕ) (body : List ℕ) → length (unsealed opcode id body) ≡ 13 + length body
unfolding unsealed
length-unsealed opcode id body =
    let head = opcode ∷ u32 (4 + 8 + length body) in
    let head_size : length head ≡ 5 = omega (arith, length-u32 (4 + 8 + length body)) in
    omega (arith, head_size, length-u64 id, length-append (head ++ u64 id) body, length-append head (u64 id))

-- the parts, one after the other, up to the checksum
pub record Parted (bytes after body : List ℕ) (opcode len id : ℕ) : Type 0 where
  pub after_opcode : List ℕ
  pub after_len : List ℕ
  pub after_id : List ℕ
  pub opcode_first : bytes ≡ opcode ∷ after_opcode
  pub then_len : after_opcode ≡ u32 len ++ after_len
  pub then_id : after_len ≡ u64 id ++ after_id
  pub some : 12 ≤ len
  pub most : len ≤ most_record - 5
  pub size : length body ≡ len - 12
  pub then_body : after_id ≡ body ++ after

pub parted : (bytes after body : List ℕ) (opcode len id : ℕ) → Parted bytes after body opcode len id → bytes ≡ unsealed opcode id body ++ after
unfolding unsealed
parted bytes after body opcode len id p =
    let counted : len ≡ 4 + 8 + length body = omega (arith, p.some, p.size) in
    let first : bytes ≡ (opcode ∷ u32 len) ++ p.after_len = p.opcode_first ∙ ap (λ t. opcode ∷ t) p.then_len in
    let head : bytes ≡ (opcode ∷ u32 (4 + 8 + length body)) ++ p.after_len = subst (λ (n : ℕ). bytes ≡ (opcode ∷ u32 n) ++ p.after_len) counted first in
    let with_id = then bytes (opcode ∷ u32 (4 + 8 + length body)) p.after_len (u64 id) p.after_id head p.then_id in
    then bytes (opcode ∷ u32 (4 + 8 + length body) ++ u64 id) p.after_id body after with_id p.then_body

pub frame_long : (bytes after_body body : List ℕ) (opcode len id : ℕ) → Parted bytes after_body body opcode len id → 1 + len ≤ length bytes
frame_long bytes after_body body opcode len id p =
    let e = parted bytes after_body body opcode len id p in
    omega (arith, ap length e, length-append (unsealed opcode id body) after_body, length-unsealed opcode id body, p.some, p.size)

pub frame_found : (bytes after_body after body : List ℕ) (opcode len id sum : ℕ) → Parted bytes after_body body opcode len id → after_body ≡ u32 sum ++ after → sum ≡ crc32_of (take (1 + len) bytes) → bytes ≡ sealed (unsealed opcode id body) ++ after
unfolding sealed
frame_found bytes after_body after body opcode len id sum p s crc =
    let text = unsealed opcode id body in
    let e = parted bytes after_body body opcode len id p in
    let size : length text ≡ 1 + len = omega (arith, length-unsealed opcode id body, p.some, p.size) in
    let front : take (1 + len) bytes ≡ text = ap (take (1 + len)) e ∙ take_at text after_body (1 + len) size in
    then bytes text after_body (u32 (crc32_of text)) after e (subst (λ (n : ℕ). after_body ≡ u32 n ++ after) (crc ∙ ap crc32_of front) s)

-- an opcode, a length, an id and a checksum have seventeen bytes
pub frame_begins : (bytes body after : List ℕ) (opcode id : ℕ) → 1 ≤ id → IsLong id → length body ≤ most_record - 17 → bytes ≡ sealed (unsealed opcode id body) ++ after → BeginsWithFrame bytes
unfolding sealed
frame_begins bytes body after opcode id first last short e =
    let text = unsealed opcode id body in
    record {
      opcode = opcode;
      id = id;
      body = body;
      after = after;
      first = first;
      last = last;
      size = omega (arith, length-append text (u32 (crc32_of text)), length-unsealed opcode id body, length-u32 (crc32_of text), short);
      text = e;
    }
