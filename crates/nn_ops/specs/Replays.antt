-- What a body holds beyond its command and its time: the ids that were given, and the attributes of a new node.
use Rattle.std.specs.Prelude.{Some, None}
use Rattle.nn_record.specs.declared.op.Op.{Op}
use Rattle.nn_record.specs.declared.op.Op.TheVariants.{Add, RenameOld, Delete, Mkdir, SetReplication, SetPermissions, SetOwner, Close, SetQuota, EndLogSegment, StartLogSegment, AddBlock}
use Rattle.nn_ops.specs.declared.replayed.Assigned.{Assigned}

abbrev pub none_assigned : Assigned
none_assigned = record { first = 0; second = 0; mode = 0; labels = None }

abbrev pub assigned_by : Op → Assigned
assigned_by (Add inode path replication time owner group mode) = record { first = inode; second = 0; mode = mode; labels = Some (owner, group) }
assigned_by (Mkdir inode path time owner group mode) = record { first = inode; second = 0; mode = mode; labels = Some (owner, group) }
assigned_by (AddBlock path id stamp length) = record { first = id; second = stamp; mode = 0; labels = None }
assigned_by (RenameOld from to time) = none_assigned
assigned_by (Delete path time) = none_assigned
assigned_by (SetReplication path replication) = none_assigned
assigned_by (SetPermissions path mode) = none_assigned
assigned_by (SetOwner path owner group) = none_assigned
assigned_by (Close path time) = none_assigned
assigned_by (SetQuota path quota) = none_assigned
assigned_by EndLogSegment = none_assigned
assigned_by StartLogSegment = none_assigned
