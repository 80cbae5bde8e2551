-- When a plan is ready: its body fits, it works on the nodes at its paths, and the tree has room for it.
use Rattle.std.specs.Prelude.{◌≡◌, ◌≢◌, ◌<◌, Bool, true, false, [], ◌∷◌, ◌++◌, length, None}
use Rattle.nn_base.specs.Paths.{Names, Bytes, IsPath, is_under}
use Rattle.nn_tree.specs.declared.spot.Spot.{Spot}
use Rattle.nn_tree.specs.declared.node.Block.{Block}
use Rattle.nn_tree.specs.declared.node.Change.{Change}
use Rattle.nn_tree.specs.declared.node.Node.{Node}
use Rattle.nn_tree.specs.declared.node.Kind.TheVariants.{File, Dir}
use Rattle.nn_tree.specs.Nodes.{no_quota, blocks_of}
use Rattle.nn_tree.specs.Namespace.{Namespace, node_count, block_count, is_file_at}
use Rattle.nn_tree.specs.Limits.{IsNode, IsBlock}
use Rattle.nn_tree.specs.Changes.{takes_change}
use Rattle.nn_tree.specs.Spots.{Spare}
use Rattle.nn_record.specs.declared.op.Op.{Op}
use Rattle.nn_record.specs.declared.op.Op.TheVariants.{Add, RenameOld, Delete, Mkdir, SetReplication, SetPermissions, SetOwner, Close, SetQuota, EndLogSegment, StartLogSegment, AddBlock}
use Rattle.nn_record.specs.Ops.{IsOp}
use Rattle.nn_ops.specs.declared.plan.Plan.{Plan}
use Rattle.nn_ops.specs.declared.plan.Target.{Target}
use Rattle.nn_ops.specs.declared.plan.Target.TheVariants.{New, At, Move}
use Rattle.nn_ops.specs.Bounds.{blocks_at}
use Rattle.nn_ops.specs.Changes.{IsChange}
use Rattle.nn_base.specs.First.{first_of}
use Rattle.nn_base.specs.Limits.{most_nodes, most_blocks, most_blocks_of_file}
use Rattle.nn_ops.specs.Commands.{free_tests}
use Rattle.nn_ops.specs.Effects.{new_node}
use Rattle.nn_ops.specs.Step.{Fits}

-- a name in the directory that a spot names
abbrev pub IsIn : Spot → Bytes → Names → (Spot → Bool) → (Spot → Names) → Type 0
IsIn parent name path has place = (has parent ≡ true) × (path ≡ place parent ++ name ∷ [])

-- a node for a path, with room for it
abbrev pub IsNew : Target → Names → Node → (Spot → Bool) → (Spot → Names) → Spare → Type 0
IsNew (New parent name node) path new has place spare = IsIn parent name path has place × (node ≡ new) × (spare.node ≡ true)
IsNew (At at) path new has place spare = ⊥
IsNew (Move at parent name) path new has place spare = ⊥

-- the node at a path
abbrev pub IsAt : Target → Names → (Spot → Bool) → (Spot → Names) → Type 0
IsAt (At at) path has place = (has at ≡ true) × (place at ≡ path)
IsAt (New parent name node) path has place = ⊥
IsAt (Move at parent name) path has place = ⊥

-- a file with room for one block more
abbrev pub HasBlockRoom : Target → Spare → Type 0
HasBlockRoom (At at) spare = spare.block at ≡ true
HasBlockRoom (New parent name node) spare = ⊥
HasBlockRoom (Move at parent name) spare = ⊥

-- the node at one path, and the place of the other
abbrev pub IsMove : Target → Names → Names → (Spot → Bool) → (Spot → Names) → Type 0
IsMove (Move at parent name) from to has place = (has at ≡ true) × (place at ≡ from) × IsIn parent name to has place
IsMove (New parent name node) from to has place = ⊥
IsMove (At at) from to has place = ⊥

-- what a body works on; no plan writes the marks of a segment
abbrev pub IsTarget : Op → Target → (Spot → Bool) → (Spot → Names) → Spare → Type 0
IsTarget (Add inode path replication time owner group mode) target has place spare = IsNew target path (new_node inode time owner group mode (File replication true [])) has place spare
IsTarget (Mkdir inode path time owner group mode) target has place spare = IsNew target path (new_node inode time owner group mode (Dir no_quota)) has place spare
IsTarget (AddBlock path id stamp length) target has place spare = IsAt target path has place × HasBlockRoom target spare
IsTarget (RenameOld from to time) target has place spare = IsMove target from to has place
IsTarget (Delete path time) target has place spare = IsAt target path has place
IsTarget (SetReplication path replication) target has place spare = IsAt target path has place
IsTarget (SetPermissions path mode) target has place spare = IsAt target path has place
IsTarget (SetOwner path owner group) target has place spare = IsAt target path has place
IsTarget (Close path time) target has place spare = IsAt target path has place
IsTarget (SetQuota path quota) target has place spare = IsAt target path has place
IsTarget EndLogSegment target has place spare = ⊥
IsTarget StartLogSegment target has place spare = ⊥

-- the path of a body, the new one of what moves; the marks of a segment have none
abbrev pub path_of : Op → Names
path_of (Add inode path replication time owner group mode) = path
path_of (RenameOld from to time) = to
path_of (Delete path time) = path
path_of (Mkdir inode path time owner group mode) = path
path_of (SetReplication path replication) = path
path_of (SetPermissions path mode) = path
path_of (SetOwner path owner group) = path
path_of (Close path time) = path
path_of (SetQuota path quota) = path
path_of EndLogSegment = []
path_of StartLogSegment = []
path_of (AddBlock path id stamp length) = path

pub record IsReady (plan : Plan) (has : Spot → Bool) (place : Spot → Names) (spare : Spare) (ns : Namespace) : Type 0 where
  pub fits : Fits ns plan.op
  pub bounds : IsOp plan.op
  pub path : IsPath (path_of plan.op)
  pub target : IsTarget plan.op plan.target has place spare

-- ---- what the single works need

-- a new node without blocks may be put into a directory
pub record CanPut (parent : Spot) (name : Bytes) (node : Node) (has : Spot → Bool) (place : Spot → Names) (spare : Spare) (ns : Namespace) : Type 0 where
  pub there : has parent ≡ true
  pub free : first_of (free_tests ns.nodes (place parent ++ name ∷ [])) ≡ None
  pub few : node_count ns.nodes < most_nodes
  pub bounds : IsNode node
  pub empty : blocks_of node.kind ≡ []
  pub room : spare.node ≡ true

-- a change may be made in a node
pub record CanChange (at : Spot) (new : Change) (has : Spot → Bool) (place : Spot → Names) (ns : Namespace) : Type 0 where
  pub there : has at ≡ true
  pub takes : takes_change ns.nodes (place at) new ≡ true
  pub bounds : IsChange new

-- a block may be added to a file
pub record CanAdd (at : Spot) (block : Block) (has : Spot → Bool) (place : Spot → Names) (spare : Spare) (ns : Namespace) : Type 0 where
  pub there : has at ≡ true
  pub file : is_file_at ns.nodes (place at) ≡ true
  pub bounds : IsBlock block
  pub few : blocks_at ns.nodes (place at) < most_blocks_of_file
  pub few_in_all : block_count ns.nodes < most_blocks
  pub room : spare.block at ≡ true

-- a node may be moved into a directory
pub record CanMove (at parent : Spot) (name : Bytes) (has : Spot → Bool) (place : Spot → Names) (ns : Namespace) : Type 0 where
  pub there : has at ≡ true
  pub below_root : place at ≢ []
  pub to : has parent ≡ true
  pub free : first_of (free_tests ns.nodes (place parent ++ name ∷ [])) ≡ None
  pub outside : is_under (place at) (place parent) ≡ false
