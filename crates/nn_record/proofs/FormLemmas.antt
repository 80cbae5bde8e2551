-- A record within its bounds is short, and its parts are put together.
use Rattle.std.proofs.Common.{◌≡◌, ℕ, ◌+◌, ◌-◌, ◌^◌, ◌≤◌, List, [], ◌∷◌, ◌++◌, length, take, drop, Option, Some, None, refl, sym, ap, ◌∙◌, append_assoc, arith, length-append, ◌*◌}
use Rattle.std.proofs.lemmas.List.{take_at, drop_at, append-nil}
use Rattle.nn_base.specs.Paths.{Names, IsPath, text_of}
use Rattle.nn_wire.specs.Crc32.{crc32_of}
use Rattle.nn_record.specs.declared.op.Op.{Op}
use Rattle.nn_record.specs.declared.op.Op.TheVariants.{Add, RenameOld, Delete, Mkdir, SetReplication, SetPermissions, SetOwner, Close, SetQuota, EndLogSegment, StartLogSegment, AddBlock}
use Rattle.nn_record.specs.declared.transaction.Record.{Record}
use Rattle.nn_base.specs.Labels.{IsLabel}
use Rattle.nn_base.specs.Limits.{IsLong, most_path}
use Rattle.nn_record.specs.Ops.{IsOp, IsHeld}
use Rattle.nn_record.specs.Spelling.{u16, u32, u64, path, name, bound, body_bytes, unsealed, sealed, IsRecord}
use Rattle.nn_record.proofs.FrameLemmas.{length-u32, length-u64}
use Rattle.nn_record.proofs.PathLemmas.{text_small}
use Rattle.nn_record.proofs.RecordLemmas.{length-spelling}

-- ---- lengths

length-u16 : (n : ℕ) → length (u16 n) ≡ 2
unfolding u16
length-u16 n = refl

path_small : (names : Names) → IsPath names → length (path names) ≤ most_path + 2
unfolding path
path_small names is = omega (arith, length-append (u16 (length (text_of names))) (text_of names), length-u16 (length (text_of names)), text_small names is)

name_small : (label : List ℕ) → IsLabel label → length (name label) ≤ 33
unfolding name
name_small label is = omega (arith, is.1)

length-bound : (most : Option ℕ) → length (bound most) ≡ 8
unfolding bound
length-bound None = length-u64 (2 ^ 64 - 1)
length-bound (Some n) = length-u64 n

-- a text of at most so many bytes, and another
longer : (a b : List ℕ) (m n : ℕ) → length a ≤ m → length b ≤ n → length (a ++ b) ≤ m + n
longer a b m n x y = omega (arith, length-append a b)

two : (n : ℕ) → length (u16 n) ≤ 2
two n = omega (arith, length-u16 n)

eight : (n : ℕ) → length (u64 n) ≤ 8
eight n = omega (arith, length-u64 n)

eight_bound : (most : Option ℕ) → length (bound most) ≤ 8
eight_bound most = omega (arith, length-bound most)

pub body_small : (op : Op) → IsHeld op → length (body_bytes op) ≤ 2 * most_path + 1000
unfolding body_bytes
body_small (Add inode p replication time owner group mode) is = omega (arith, longer _ _ _ _ (longer _ _ _ _ (longer _ _ _ _ (longer _ _ _ _ (longer _ _ _ _ (longer _ _ _ _ (eight inode) (path_small p is.0)) (two replication)) (eight time)) (name_small owner is.1)) (name_small group is.2)) (two mode))
body_small (RenameOld old new time) is = omega (arith, longer _ _ _ _ (longer _ _ _ _ (path_small old is.0) (path_small new is.1)) (eight time))
body_small (Delete p time) is = omega (arith, longer _ _ _ _ (path_small p is) (eight time))
body_small (Mkdir inode p time owner group mode) is = omega (arith, longer _ _ _ _ (longer _ _ _ _ (longer _ _ _ _ (longer _ _ _ _ (longer _ _ _ _ (eight inode) (path_small p is.0)) (eight time)) (name_small owner is.1)) (name_small group is.2)) (two mode))
body_small (SetReplication p replication) is = omega (arith, longer _ _ _ _ (path_small p is.0) (two replication))
body_small (SetPermissions p mode) is = omega (arith, longer _ _ _ _ (path_small p is) (two mode))
body_small (SetOwner p owner group) is = omega (arith, longer _ _ _ _ (longer _ _ _ _ (path_small p is.0) (name_small owner is.1)) (name_small group is.2))
body_small (Close p time) is = omega (arith, longer _ _ _ _ (path_small p is) (eight time))
body_small (SetQuota p quota) is = omega (arith, longer _ _ _ _ (longer _ _ _ _ (path_small p is) (eight_bound quota.names)) (eight_bound quota.space))
body_small EndLogSegment is = omega arith
body_small StartLogSegment is = omega arith
body_small (AddBlock p id stamp size) is = omega (arith, longer _ _ _ _ (longer _ _ _ _ (longer _ _ _ _ (path_small p is.0) (eight id)) (eight stamp)) (eight size))

-- so the longest record is far below its limit
pub is_record : (r : Record) → 1 ≤ r.id → IsLong r.id → IsOp r.op → IsHeld r.op → IsRecord r
is_record r first last op held = record { first = first; last = last; op = op; held = held; size = omega (arith, length-spelling r, body_small r.op held) }

-- ---- written over, and put together

patched : (before hole after new : List ℕ) (at n : ℕ) → length before ≡ at → length hole ≡ n → take at ((before ++ hole) ++ after) ++ new ++ drop (at + n) ((before ++ hole) ++ after) ≡ (before ++ new) ++ after
patched before hole after new at n first size =
    let front : take at ((before ++ hole) ++ after) ≡ before = ap (take at) (append_assoc before hole after) ∙ take_at before (hole ++ after) at first in
    let back : drop (at + n) ((before ++ hole) ++ after) ≡ after = drop_at (before ++ hole) after (at + n) (omega (arith, length-append before hole)) in
    (λ i. front i ++ new ++ back i)

put_together : (old : List ℕ) (opcode id : ℕ) (body : List ℕ) → ((old ++ opcode ∷ []) ++ u32 (4 + 8 + length body)) ++ (u64 id ++ body) ≡ old ++ unsealed opcode id body
unfolding unsealed
put_together old opcode id body = simp append_assoc refl

length-unfinished : (old x : List ℕ) (opcode id : ℕ) (body : List ℕ) → x ≡ (((old ++ opcode ∷ []) ++ u32 0) ++ u64 id) ++ body → length x ≡ length old + (13 + length body)
length-unfinished old x opcode id body e =
    let before = old ++ opcode ∷ [] in
    omega (arith, ap length e, length-append ((before ++ u32 0) ++ u64 id) body, length-append (before ++ u32 0) (u64 id), length-append before (u32 0), length-append old (opcode ∷ []), length-u32 0, length-u64 id)

-- x is a record without its checksum whose length isn't known yet; new is x with the length written over it
pub written_over : (old x new bytes : List ℕ) (opcode id len at : ℕ) (body : List ℕ) → x ≡ (((old ++ opcode ∷ []) ++ u32 0) ++ u64 id) ++ body → length old + 1 ≡ at → len ≡ length x - length old - 1 → bytes ≡ u32 len
    → new ≡ take at x ++ bytes ++ drop (at + length bytes) x → new ≡ old ++ unsealed opcode id body
written_over old x new bytes opcode id len at body whole place counted is e =
    let before = old ++ opcode ∷ [] in
    let after = u64 id ++ body in
    let is_len : len ≡ 4 + 8 + length body = omega (arith, counted, length-unfinished old x opcode id body whole) in
    let parts : x ≡ (before ++ u32 0) ++ after = whole ∙ append_assoc (before ++ u32 0) (u64 id) body in
    let size : length bytes ≡ 4 = ap length is ∙ length-u32 len in
    let first : length before ≡ at = omega (arith, place, length-append old (opcode ∷ [])) in
    e ∙ (λ i. take at (parts i) ++ is i ++ drop (at + size i) (parts i)) ∙ patched before (u32 0) after (u32 len) at 4 first (length-u32 0)
    ∙ ap (λ n. (before ++ u32 n) ++ after) is_len ∙ put_together old opcode id body

-- what stands behind the old bytes
pub behind : (whole old text : List ℕ) (start : ℕ) → whole ≡ old ++ text → start ≡ length old → take (length whole - start) (drop start whole) ≡ text
behind whole old text start e s =
    let rest : drop start whole ≡ text = ap (drop start) e ∙ drop_at old text start (sym s) in
    let size : length text ≡ length whole - start = omega (arith, ap length e, length-append old text, s) in
    ap (take (length whole - start)) (rest ∙ sym (append-nil text)) ∙ take_at text [] (length whole - start) size

pub sealed_behind : (old text out : List ℕ) (sum : ℕ) → out ≡ (old ++ text) ++ u32 sum → sum ≡ crc32_of text → out ≡ old ++ sealed text
unfolding sealed
sealed_behind old text out sum e s = e ∙ ap (λ n. (old ++ text) ++ u32 n) s ∙ append_assoc old text (u32 (crc32_of text))
