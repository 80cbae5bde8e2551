-- The changes that a record may hold: their opcodes, and the bounds of their fields.
use Rattle.std.specs.Prelude.{ℕ, ◌^◌, ◌<◌, ◌≤◌}
use Rattle.nn_base.specs.Limits.{IsLong, most_mode}
use Rattle.nn_base.specs.Labels.{IsLabel}
use Rattle.nn_base.specs.Paths.{IsPath}
use Rattle.nn_quota.specs.Quotas.{IsQuota}
use Rattle.nn_record.specs.declared.op.Op.{Op}
use Rattle.nn_record.specs.declared.op.Op.TheVariants.{Add, RenameOld, Delete, Mkdir, SetReplication, SetPermissions, SetOwner, Close, SetQuota, EndLogSegment, StartLogSegment, AddBlock}

-- the numbers of Hadoop's `FSEditLogOpCodes`
abbrev pub opcode_of : Op → ℕ
opcode_of (Add inode path replication time owner group mode) = 0
opcode_of (RenameOld old new time) = 1
opcode_of (Delete path time) = 2
opcode_of (Mkdir inode path time owner group mode) = 3
opcode_of (SetReplication path replication) = 4
opcode_of (SetPermissions path mode) = 7
opcode_of (SetOwner path owner group) = 8
opcode_of (Close path time) = 9
opcode_of (SetQuota path quota) = 14
opcode_of EndLogSegment = 23
opcode_of StartLogSegment = 24
opcode_of (AddBlock path id stamp length) = 33

-- ---- what a change keeps

-- nine bits of permissions and the sticky bit
abbrev pub IsMode : ℕ → Type 0
IsMode mode = mode ≤ most_mode

-- the numbers are in their ranges (times, ids and stamps are longs); those that are bounded by their widths alone stand below
abbrev pub IsOp : Op → Type 0
IsOp (Add inode path replication time owner group mode) = IsLong inode × IsLong time × IsMode mode
IsOp (RenameOld old new time) = IsLong time
IsOp (Delete path time) = IsLong time
IsOp (Mkdir inode path time owner group mode) = IsLong inode × IsLong time × IsMode mode
IsOp (SetReplication path replication) = Unit {0}
IsOp (SetPermissions path mode) = IsMode mode
IsOp (SetOwner path owner group) = Unit {0}
IsOp (Close path time) = IsLong time
IsOp (SetQuota path quota) = IsQuota quota
IsOp EndLogSegment = Unit {0}
IsOp StartLogSegment = Unit {0}
IsOp (AddBlock path id stamp length) = IsLong id × IsLong stamp

-- ---- what its types keep by themselves

-- the paths are paths, the names of owners and groups are such, and a replication and the length of a block fit their widths
abbrev pub IsHeld : Op → Type 0
IsHeld (Add inode path replication time owner group mode) = IsPath path × IsLabel owner × IsLabel group × (replication < 2 ^ 16)
IsHeld (RenameOld old new time) = IsPath old × IsPath new
IsHeld (Delete path time) = IsPath path
IsHeld (Mkdir inode path time owner group mode) = IsPath path × IsLabel owner × IsLabel group
IsHeld (SetReplication path replication) = IsPath path × (replication < 2 ^ 16)
IsHeld (SetPermissions path mode) = IsPath path
IsHeld (SetOwner path owner group) = IsPath path × IsLabel owner × IsLabel group
IsHeld (Close path time) = IsPath path
IsHeld (SetQuota path quota) = IsPath path
IsHeld EndLogSegment = Unit {0}
IsHeld StartLogSegment = Unit {0}
IsHeld (AddBlock path id stamp length) = IsPath path × (length < 2 ^ 64)
