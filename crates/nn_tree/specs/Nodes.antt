-- What a node is: a file with its blocks, or a directory.
use Rattle.std.specs.Prelude.{ℕ, ◌*◌, Bool, true, false, not, List, [], sum_by, Option, Some, None}
use Rattle.nn_quota.specs.declared.quota.Quota.{Quota}
use Rattle.nn_tree.specs.declared.node.Block.{Block}
use Rattle.nn_tree.specs.declared.node.Kind.{Kind}
use Rattle.nn_tree.specs.declared.node.Kind.TheVariants.{File, Dir}

abbrev pub is_dir : Kind → Bool
is_dir (File replication is_open blocks) = false
is_dir (Dir quota) = true

abbrev pub is_file : Kind → Bool
is_file kind = not (is_dir kind)

-- a directory has no blocks
abbrev pub blocks_of : Kind → List Block
blocks_of (File replication is_open blocks) = blocks
blocks_of (Dir quota) = []

abbrev pub length_of : List Block → ℕ
length_of blocks = sum_by (λ b. b.length) blocks

-- the bytes that a node takes, replicas counted
abbrev pub space_of : Kind → ℕ
space_of (File replication is_open blocks) = replication * length_of blocks
space_of (Dir quota) = 0

abbrev pub replication_of : Kind → Option ℕ
replication_of (File replication is_open blocks) = Some replication
replication_of (Dir quota) = None

abbrev pub no_quota : Quota
no_quota = record { names = None; space = None }

-- a file has no quota
abbrev pub quota_of : Kind → Quota
quota_of (File replication is_open blocks) = no_quota
quota_of (Dir quota) = quota
