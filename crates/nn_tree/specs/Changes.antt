-- What each change makes of a namespace.
use Rattle.std.specs.Prelude.{ℕ, Bool, true, false, not, [], ◌∷◌, ◌++◌, map, drop, length, Some, None, if◌then◌else◌}
use Rattle.std.specs.FinMap.{get, insert, retain_keys, entries, from_entries}
use Rattle.nn_base.specs.Paths.{Names, is_under}
use Rattle.nn_quota.specs.declared.quota.Quota.{Quota}
use Rattle.nn_tree.specs.declared.node.Block.{Block}
use Rattle.nn_tree.specs.declared.node.Kind.{Kind}
use Rattle.nn_tree.specs.declared.node.Kind.TheVariants.{File, Dir}
use Rattle.nn_tree.specs.declared.node.Node.{Node}
use Rattle.nn_tree.specs.declared.node.Change.{Change}
use Rattle.nn_tree.specs.declared.node.Change.TheVariants.{Time, Mode, Owner, Quota as NewQuota, Replication, Closed}
use Rattle.nn_tree.specs.Namespace.{Namespace, Nodes, is_dir_at, is_file_at}

abbrev pub with_nodes : Namespace → Nodes → Namespace
with_nodes ns m = record { nodes = m; counters = ns.counters }

-- ---- paths

-- where the path q is once p was moved to d, with all below it
abbrev pub moved : Names → Names → Names → Names
moved p d q = if is_under p q then d ++ drop (length p) q else q

abbrev pub move : Names → Names → Nodes → Nodes
move p d m = from_entries (map (λ e. (moved p d e.0, e.1)) (entries m))

-- without p and all below it
abbrev pub cut : Names → Nodes → Nodes
cut p m = retain_keys m (λ q. not (is_under p q))

-- ---- the node at one path

abbrev pub change_at : Names → (Node → Node) → Nodes → Nodes
change_at p f m = elim (get m p) [ None ↦ m | Some node ↦ insert m p (f node) ]

-- one block more, the last
abbrev pub add_block : Block → Kind → Kind
add_block block (File replication is_open blocks) = File replication is_open (blocks ++ block ∷ [])
add_block block (Dir quota) = Dir quota

abbrev pub with_block : Block → Node → Node
with_block block node = record node { kind = add_block block node.kind }

abbrev pub with_quota : Quota → Kind → Kind
with_quota quota (File replication is_open blocks) = File replication is_open blocks
with_quota quota (Dir old) = Dir quota

abbrev pub with_replication : ℕ → Kind → Kind
with_replication replication (File old is_open blocks) = File replication is_open blocks
with_replication replication (Dir quota) = Dir quota

abbrev pub closed : Kind → Kind
closed (File replication is_open blocks) = File replication false blocks
closed (Dir quota) = Dir quota

abbrev pub changed : Change → Node → Node
changed (Time time) node = record node { time = time }
changed (Mode mode) node = record node { mode = mode }
changed (Owner owner group) node = record node { owner = owner; group = group }
changed (NewQuota quota) node = record node { kind = with_quota quota node.kind }
changed (Replication replication) node = record node { kind = with_replication replication node.kind }
changed Closed node = record node { kind = closed node.kind }

-- whether the node at a path takes a change: a quota is a directory's, a replication and the mark of a closed file are a file's
abbrev pub takes_change : Nodes → Names → Change → Bool
takes_change m p (Time time) = true
takes_change m p (Mode mode) = true
takes_change m p (Owner owner group) = true
takes_change m p (NewQuota quota) = is_dir_at m p
takes_change m p (Replication replication) = is_file_at m p
takes_change m p Closed = is_file_at m p
