-- The limits of a namespace, and the ranges of the numbers in it.
use Rattle.std.specs.Prelude.{◌≡◌, ◌<◌, ◌≤◌, length, All, Some}
use Rattle.std.specs.Option.{ForSome}
use Rattle.std.specs.FinMap.{get}
use Rattle.nn_base.specs.Paths.{Names}
use Rattle.nn_base.specs.Limits.{IsLong, most_mode, most_nodes, most_blocks, most_blocks_of_file, most_block_length, most_replication}
use Rattle.nn_tree.specs.declared.node.Block.{Block}
use Rattle.nn_tree.specs.declared.node.Kind.{Kind}
use Rattle.nn_tree.specs.declared.node.Node.{Node}
use Rattle.nn_tree.specs.declared.node.Counters.{Counters}
use Rattle.nn_tree.specs.Nodes.{blocks_of, replication_of, quota_of}
use Rattle.nn_tree.specs.Namespace.{Nodes, node_count, block_count}

-- a block of one byte or more
pub record IsBlock (block : Block) : Type 0 where
  pub id : IsLong block.id
  pub stamp : IsLong block.stamp
  pub some : 0 < block.length
  pub few : block.length ≤ most_block_length

-- a file is replicated once or more; ids, stamps, times and quotas are longs
pub record IsKind (kind : Kind) : Type 0 where
  pub replicated : ForSome (replication_of kind) (λ r. (0 < r) × (r ≤ most_replication))
  pub few : length (blocks_of kind) ≤ most_blocks_of_file
  pub blocks : All IsBlock (blocks_of kind)
  pub names : ForSome (quota_of kind).names IsLong
  pub space : ForSome (quota_of kind).space IsLong

pub record IsNode (node : Node) : Type 0 where
  pub id : IsLong node.id
  pub mode : node.mode ≤ most_mode
  pub time : IsLong node.time
  pub kind : IsKind node.kind

pub record IsWithinLimits (m : Nodes) : Type 0 where
  pub nodes : node_count m ≤ most_nodes
  pub blocks : block_count m ≤ most_blocks
  pub each : (p : Names) (node : Node) → get m p ≡ Some node → IsNode node

pub record IsCounters (counters : Counters) : Type 0 where
  pub inode : IsLong counters.inode
  pub block : IsLong counters.block
  pub stamp : IsLong counters.stamp
