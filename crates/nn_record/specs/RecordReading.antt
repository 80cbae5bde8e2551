-- How a record is read, field by field: the grammar decides, and this says the same as what reading gives.
use Rattle.std.specs.Prelude.{ℕ, ◌+◌, ◌-◌, ◌||◌, ◌==◌, nat_lt, nat_le, if◌then◌else◌, List, length, take, Some, None}
use Rattle.std.specs.Int.{w16, w32, w64}
use Rattle.nn_base.specs.Limits.{most_record}
use Rattle.nn_wire.specs.Crc32.{crc32_of}
use Rattle.nn_record.specs.declared.op.Op.{Op}
use Rattle.nn_record.specs.declared.op.Op.TheVariants.{Add, RenameOld, Delete, Mkdir, SetReplication, SetPermissions, SetOwner, Close, SetQuota, EndLogSegment, StartLogSegment, AddBlock}
use Rattle.nn_record.specs.declared.transaction.Record.{Record}
use Rattle.nn_record.specs.Reading.{◌>>=◌, Field, byte_at, number_at, text_at, long_at, mode_at, path_at, name_at, bound_at}

-- ---- bodies

unfoldable pub add_at : List ℕ → Field Op
add_at body = do
  inode ← long_at body
  path ← path_at inode.1
  replication ← number_at w16 path.1
  time ← long_at replication.1
  owner ← name_at time.1
  group ← name_at owner.1
  mode ← mode_at group.1
  Some (Add inode.0 path.0 replication.0 time.0 owner.0 group.0 mode.0, mode.1)

unfoldable pub rename_old_at : List ℕ → Field Op
rename_old_at body = do
  from ← path_at body
  to ← path_at from.1
  time ← long_at to.1
  Some (RenameOld from.0 to.0 time.0, time.1)

unfoldable pub delete_at : List ℕ → Field Op
delete_at body = do
  path ← path_at body
  time ← long_at path.1
  Some (Delete path.0 time.0, time.1)

unfoldable pub mkdir_at : List ℕ → Field Op
mkdir_at body = do
  inode ← long_at body
  path ← path_at inode.1
  time ← long_at path.1
  owner ← name_at time.1
  group ← name_at owner.1
  mode ← mode_at group.1
  Some (Mkdir inode.0 path.0 time.0 owner.0 group.0 mode.0, mode.1)

unfoldable pub set_replication_at : List ℕ → Field Op
set_replication_at body = do
  path ← path_at body
  replication ← number_at w16 path.1
  Some (SetReplication path.0 replication.0, replication.1)

unfoldable pub set_permissions_at : List ℕ → Field Op
set_permissions_at body = do
  path ← path_at body
  mode ← mode_at path.1
  Some (SetPermissions path.0 mode.0, mode.1)

unfoldable pub set_owner_at : List ℕ → Field Op
set_owner_at body = do
  path ← path_at body
  owner ← name_at path.1
  group ← name_at owner.1
  Some (SetOwner path.0 owner.0 group.0, group.1)

unfoldable pub close_at : List ℕ → Field Op
close_at body = do
  path ← path_at body
  time ← long_at path.1
  Some (Close path.0 time.0, time.1)

unfoldable pub set_quota_at : List ℕ → Field Op
set_quota_at body = do
  path ← path_at body
  names ← bound_at path.1
  space ← bound_at names.1
  Some (SetQuota path.0 (record { names = names.0; space = space.0 }), space.1)

unfoldable pub add_block_at : List ℕ → Field Op
add_block_at body = do
  path ← path_at body
  id ← long_at path.1
  stamp ← long_at id.1
  length ← number_at w64 stamp.1
  Some (AddBlock path.0 id.0 stamp.0 length.0, length.1)

unfoldable pub op_at : ℕ → List ℕ → Field Op
op_at opcode body =
    if opcode == 0 then add_at body
    else if opcode == 1 then rename_old_at body
    else if opcode == 2 then delete_at body
    else if opcode == 3 then mkdir_at body
    else if opcode == 4 then set_replication_at body
    else if opcode == 7 then set_permissions_at body
    else if opcode == 8 then set_owner_at body
    else if opcode == 9 then close_at body
    else if opcode == 14 then set_quota_at body
    else if opcode == 23 then Some (EndLogSegment, body)
    else if opcode == 24 then Some (StartLogSegment, body)
    else if opcode == 33 then add_block_at body
    else None

-- ---- the whole record

unfoldable pub id_at : List ℕ → Field ℕ
id_at bytes = do
  n ← long_at bytes
  if nat_le 1 n.0 then Some (n.0, n.1) else None

-- The length counts itself, the id and the body: all of a record but the opcode and the checksum, which have five bytes.
unfoldable pub rest_at : ℕ → List ℕ → Field (List ℕ)
rest_at len bytes = if nat_lt len 12 || nat_lt (most_record - 5) len then None else text_at (len - 12) bytes

-- opcode, id and body, where the checksum is that of the opcode and of what the length counts
unfoldable pub frame_at : List ℕ → Field (ℕ × ℕ × List ℕ)
frame_at bytes = do
  opcode ← byte_at bytes
  len ← number_at w32 opcode.1
  id ← id_at len.1
  body ← rest_at len.0 id.1
  sum ← number_at w32 body.1
  if sum.0 == crc32_of (take (1 + len.0) bytes) then Some ((opcode.0, id.0, body.0), sum.1) else None

-- a record, whose body is just its fields
unfoldable pub record_at : List ℕ → Field Record
record_at bytes = do
  frame ← frame_at bytes
  op ← op_at frame.0.0 frame.0.2
  if length op.1 == 0 then Some (record { id = frame.0.1; op = op.0 }, frame.1) else None
