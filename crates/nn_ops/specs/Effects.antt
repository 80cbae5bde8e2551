-- What a body does to a namespace. It reads nothing but the body, so that a replay does the same.
use Rattle.std.specs.Prelude.{ℕ, true, []}
use Rattle.std.specs.FinMap.{insert}
use Rattle.nn_base.specs.Paths.{Names, Bytes}
use Rattle.nn_tree.specs.declared.node.Node.{Node}
use Rattle.nn_tree.specs.declared.node.Kind.{Kind}
use Rattle.nn_tree.specs.declared.node.Kind.TheVariants.{File, Dir}
use Rattle.nn_tree.specs.declared.node.Change.{Change}
use Rattle.nn_tree.specs.declared.node.Change.TheVariants.{Time, Mode, Owner, Quota, Replication, Closed}
use Rattle.nn_tree.specs.Nodes.{no_quota}
use Rattle.nn_tree.specs.Namespace.{Namespace, Nodes}
use Rattle.nn_tree.specs.Changes.{with_nodes, move, cut, change_at, with_block, changed}
use Rattle.nn_record.specs.declared.op.Op.{Op}
use Rattle.nn_record.specs.declared.op.Op.TheVariants.{Add, RenameOld, Delete, Mkdir, SetReplication, SetPermissions, SetOwner, Close, SetQuota, EndLogSegment, StartLogSegment, AddBlock}
use Rattle.nn_ops.specs.Above.{parent_of}

abbrev pub change : Names → Change → Nodes → Nodes
change p new m = change_at p (changed new) m

-- the node at p was modified at a time
abbrev pub touch : Names → ℕ → Nodes → Nodes
touch p time m = change p (Time time) m

abbrev pub new_node : ℕ → ℕ → Bytes → Bytes → ℕ → Kind → Node
new_node id time owner group mode kind = record { id = id; owner = owner; group = group; mode = mode; time = time; kind = kind }

-- a node more, whose id is the last that was given; its directory was modified when it was made
abbrev pub put_node : Names → Node → Namespace → Namespace
put_node p node ns = record {
  nodes = touch (parent_of p) node.time (insert ns.nodes p node);
  counters = record ns.counters { inode = node.id };
}

abbrev pub effect : Op → Namespace → Namespace
effect (Mkdir inode path time owner group mode) ns = put_node path (new_node inode time owner group mode (Dir no_quota)) ns
effect (Add inode path replication time owner group mode) ns = put_node path (new_node inode time owner group mode (File replication true [])) ns
effect (AddBlock path id stamp length) ns = record {
  nodes = change_at path (with_block (record { id = id; stamp = stamp; length = length })) ns.nodes;
  counters = record ns.counters { block = id; stamp = stamp };
}
effect (Close path time) ns = with_nodes ns (touch path time (change path Closed ns.nodes))
effect (Delete path time) ns = with_nodes ns (touch (parent_of path) time (cut path ns.nodes))
effect (RenameOld from to time) ns = with_nodes ns (touch (parent_of to) time (touch (parent_of from) time (move from to ns.nodes)))
effect (SetPermissions path mode) ns = with_nodes ns (change path (Mode mode) ns.nodes)
effect (SetOwner path owner group) ns = with_nodes ns (change path (Owner owner group) ns.nodes)
effect (SetQuota path quota) ns = with_nodes ns (change path (Quota quota) ns.nodes)
effect (SetReplication path replication) ns = with_nodes ns (change path (Replication replication) ns.nodes)
effect EndLogSegment ns = ns
effect StartLogSegment ns = ns
