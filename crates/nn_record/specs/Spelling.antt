-- The one spelling of each record: opcode, length, transaction id, body and checksum, all numbers big-endian.
use Rattle.std.specs.Prelude.{◌≡◌, ℕ, ◌+◌, ◌-◌, ◌^◌, ◌≤◌, List, [], ◌∷◌, ◌++◌, length, Option, Some, None}
use Rattle.std.specs.Int.{w16, w32, w64, to_be_bytes}
use Rattle.nn_base.specs.Limits.{most_record, IsLong}
use Rattle.nn_base.specs.Paths.{Names, text_of}
use Rattle.nn_wire.specs.Crc32.{crc32_of}
use Rattle.nn_record.specs.declared.op.Op.{Op}
use Rattle.nn_record.specs.declared.op.Op.TheVariants.{Add, RenameOld, Delete, Mkdir, SetReplication, SetPermissions, SetOwner, Close, SetQuota, EndLogSegment, StartLogSegment, AddBlock}
use Rattle.nn_record.specs.declared.transaction.Record.{Record}
use Rattle.nn_record.specs.Ops.{opcode_of, IsOp, IsHeld}

-- ---- fields: numbers of two, four and eight bytes

unfoldable pub u16 : ℕ → List ℕ
u16 n = to_be_bytes w16 n

unfoldable pub u32 : ℕ → List ℕ
u32 n = to_be_bytes w32 n

unfoldable pub u64 : ℕ → List ℕ
u64 n = to_be_bytes w64 n

-- two bytes of length, and the path's text
unfoldable pub path : Names → List ℕ
path names = u16 (length (text_of names)) ++ text_of names

-- one byte of length, and the name of an owner or a group
unfoldable pub name : List ℕ → List ℕ
name label = length label ∷ label

-- a bound, where none is all ones
unfoldable pub bound : Option ℕ → List ℕ
bound None = u64 (2 ^ 64 - 1)
bound (Some most) = u64 most

-- ---- the body of each opcode

unfoldable pub body_bytes : Op → List ℕ
body_bytes (Add inode p replication time owner group mode) = u64 inode ++ path p ++ u16 replication ++ u64 time ++ name owner ++ name group ++ u16 mode
body_bytes (RenameOld old new time) = path old ++ path new ++ u64 time
body_bytes (Delete p time) = path p ++ u64 time
body_bytes (Mkdir inode p time owner group mode) = u64 inode ++ path p ++ u64 time ++ name owner ++ name group ++ u16 mode
body_bytes (SetReplication p replication) = path p ++ u16 replication
body_bytes (SetPermissions p mode) = path p ++ u16 mode
body_bytes (SetOwner p owner group) = path p ++ name owner ++ name group
body_bytes (Close p time) = path p ++ u64 time
body_bytes (SetQuota p quota) = path p ++ bound quota.names ++ bound quota.space
body_bytes EndLogSegment = []
body_bytes StartLogSegment = []
body_bytes (AddBlock p id stamp size) = path p ++ u64 id ++ u64 stamp ++ u64 size

-- bytes that begin with the body of an op of this opcode
pub record IsBody (code : ℕ) (change : Op) (bytes rest : List ℕ) : Type 0 where
  pub opcode : opcode_of change ≡ code
  pub op : IsOp change
  pub held : IsHeld change
  pub text : bytes ≡ body_bytes change ++ rest

-- ---- the whole record

-- The length counts itself, the id and the body.
unfoldable pub unsealed : ℕ → ℕ → List ℕ → List ℕ
unsealed opcode id body = opcode ∷ u32 (4 + 8 + length body) ++ u64 id ++ body

-- a text and its checksum
unfoldable pub sealed : List ℕ → List ℕ
sealed text = text ++ u32 (crc32_of text)

unfoldable pub spelling : Record → List ℕ
spelling r = sealed (unsealed (opcode_of r.op) r.id (body_bytes r.op))

-- Bytes that begin with a whole frame: all that its length counts is there, the checksum agrees, and it is no longer than a
-- record may be. Whether the body has a reading isn't said.
pub record BeginsWithFrame (bytes : List ℕ) : Type 0 where
  pub opcode : ℕ
  pub id : ℕ
  pub body : List ℕ
  pub after : List ℕ
  pub first : 1 ≤ id
  pub last : IsLong id
  pub size : length (sealed (unsealed opcode id body)) ≤ most_record
  pub text : bytes ≡ sealed (unsealed opcode id body) ++ after

-- what has a spelling: a record with an id from 1 to 2^63 - 1 whose fields are in their ranges
pub record IsRecord (r : Record) : Type 0 where
  pub first : 1 ≤ r.id
  pub last : IsLong r.id
  pub op : IsOp r.op
  pub held : IsHeld r.op
  pub size : length (spelling r) ≤ most_record

-- bytes that begin with the spelling of r, and rest after it
pub record Begins (bytes : List ℕ) (r : Record) (rest : List ℕ) : Type 0 where
  pub formed : IsRecord r
  pub text : bytes ≡ spelling r ++ rest

-- No record's spelling begins another's.
abbrev pub NoneBeginsAnother : Type 0
NoneBeginsAnother = (r s : Record) (after_r after_s : List ℕ) → IsRecord r → IsRecord s → spelling r ++ after_r ≡ spelling s ++ after_s → (r ≡ s) × (after_r ≡ after_s)
