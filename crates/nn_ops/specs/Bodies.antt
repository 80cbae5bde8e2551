-- The body that a command writes to the edit log, and the command that a body is of.
use Rattle.std.specs.Prelude.{ℕ, ◌+◌, [], Option, Some, None}
use Rattle.std.specs.Option.{option_map_or}
use Rattle.std.specs.FinMap.{get}
use Rattle.nn_base.specs.Paths.{Names, Bytes}
use Rattle.nn_tree.specs.Namespace.{Namespace, Nodes, hdfs}
use Rattle.nn_record.specs.declared.op.Op.{Op}
use Rattle.nn_record.specs.declared.op.Op.TheVariants.{Add, RenameOld, Delete, Mkdir as MkdirOp, SetReplication, SetPermissions, SetOwner, Close as CloseOp, SetQuota as SetQuotaOp, EndLogSegment, StartLogSegment, AddBlock as AddBlockOp}
use Rattle.nn_ops.specs.declared.command.Command.{Command}
use Rattle.nn_ops.specs.declared.command.Command.TheVariants.{Mkdir, Create, AddBlock, Close, Delete as DeleteCommand, Rename, Chmod, Chown, SetQuota, Setrep}
use Rattle.nn_ops.specs.Above.{parent_of}

-- the group of the directory that a new node goes into
abbrev pub group_above : Nodes → Names → Bytes
group_above m p = option_map_or (λ node. node.group) (get m (parent_of p)) []

-- a new node has the next id, the owner `hdfs` and the group of its directory; 493 and 420 are 755 and 644 in octal
abbrev pub op_of : Namespace → Command → ℕ → Op
op_of ns (Mkdir path) now = MkdirOp (ns.counters.inode + 1) path now hdfs (group_above ns.nodes path) 493
op_of ns (Create path replication) now = Add (ns.counters.inode + 1) path replication now hdfs (group_above ns.nodes path) 420
op_of ns (AddBlock path length) now = AddBlockOp path (ns.counters.block + 1) (ns.counters.stamp + 1) length
op_of ns (Close path) now = CloseOp path now
op_of ns (DeleteCommand path) now = Delete path now
op_of ns (Rename from to) now = RenameOld from to now
op_of ns (Chmod path mode) now = SetPermissions path mode
op_of ns (Chown path owner group) now = SetOwner path owner group
op_of ns (SetQuota path quota) now = SetQuotaOp path quota
op_of ns (Setrep path replication) now = SetReplication path replication

-- the command that is read off the fields of a body; the marks of a segment are of none
abbrev pub command_of_op : Op → Option Command
command_of_op (Add inode path replication time owner group mode) = Some (Create path replication)
command_of_op (RenameOld from to time) = Some (Rename from to)
command_of_op (Delete path time) = Some (DeleteCommand path)
command_of_op (MkdirOp inode path time owner group mode) = Some (Mkdir path)
command_of_op (SetReplication path replication) = Some (Setrep path replication)
command_of_op (SetPermissions path mode) = Some (Chmod path mode)
command_of_op (SetOwner path owner group) = Some (Chown path owner group)
command_of_op (CloseOp path time) = Some (Close path)
command_of_op (SetQuotaOp path quota) = Some (SetQuota path quota)
command_of_op EndLogSegment = None
command_of_op StartLogSegment = None
command_of_op (AddBlockOp path id stamp length) = Some (AddBlock path length)

-- the time in a body; one that has none is the same at each time
abbrev pub time_of : Op → ℕ
time_of (Add inode path replication time owner group mode) = time
time_of (RenameOld from to time) = time
time_of (Delete path time) = time
time_of (MkdirOp inode path time owner group mode) = time
time_of (CloseOp path time) = time
time_of (SetReplication path replication) = 0
time_of (SetPermissions path mode) = 0
time_of (SetOwner path owner group) = 0
time_of (SetQuotaOp path quota) = 0
time_of EndLogSegment = 0
time_of StartLogSegment = 0
time_of (AddBlockOp path id stamp length) = 0
