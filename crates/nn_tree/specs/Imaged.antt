-- Which namespaces can be saved: those within all limits, in which no number was given twice.
use Rattle.std.specs.Prelude.{◌≡◌, ◌≢◌, ℕ, ◌≤◌, true, List, map, nat_eq, All, Some, is_some}
use Rattle.std.specs.List.{flat_map, IsDistinct}
use Rattle.std.specs.FinMap.{get, entries}
use Rattle.nn_base.specs.Paths.{Names, IsPath}
use Rattle.nn_tree.specs.declared.node.Block.{Block}
use Rattle.nn_tree.specs.declared.node.Node.{Node}
use Rattle.nn_tree.specs.Nodes.{blocks_of, quota_of}
use Rattle.nn_tree.specs.Namespace.{Namespace, Nodes, IsNamespace}
use Rattle.nn_tree.specs.Limits.{IsWithinLimits, IsCounters}

-- the blocks of all files
abbrev pub blocks_of_files : Nodes → List Block
blocks_of_files m = flat_map (λ e. blocks_of e.1.kind) (entries m)

-- no id was given twice, and none is above the last one given
pub record AreGiven (ids : List ℕ) (last : ℕ) : Type 0 where
  pub once : IsDistinct nat_eq ids
  pub within : All (λ id. id ≤ last) ids

-- what is asked of a namespace that is saved
pub record IsImaged (ns : Namespace) : Type 0 where
  pub formed : IsNamespace ns.nodes
  pub limits : IsWithinLimits ns.nodes
  pub counters : IsCounters ns.counters
  pub paths : (p : Names) → is_some (get ns.nodes p) ≡ true → IsPath p
  pub quotas : (p : Names) (node : Node) → get ns.nodes p ≡ Some node → (quota_of node.kind).names ≢ Some 0
  pub inodes : AreGiven (map (λ e. e.1.id) (entries ns.nodes)) ns.counters.inode
  pub blocks : AreGiven (map (λ b. b.id) (blocks_of_files ns.nodes)) ns.counters.block
  pub stamps : All (λ b. b.stamp ≤ ns.counters.stamp) (blocks_of_files ns.nodes)
