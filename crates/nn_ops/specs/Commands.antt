-- The tests of each command, in the order in which they are made.
use Rattle.std.specs.Prelude.{ℕ, ◌*◌, ◌-◌, ◌≤◌, Bool, false, not, ◌||◌, List, [], ◌∷◌, is_some, is_none, unwrap_or}
use Rattle.std.specs.Option.{option_map_or}
use Rattle.std.specs.FinMap.{get}
use Rattle.nn_base.specs.Paths.{Names, is_under}
use Rattle.nn_tree.specs.declared.node.Kind.{Kind}
use Rattle.nn_tree.specs.declared.node.Kind.TheVariants.{File, Dir}
use Rattle.nn_tree.specs.Nodes.{blocks_of, length_of, space_of, replication_of}
use Rattle.nn_tree.specs.Namespace.{Namespace, Nodes, is_dir_at, usage_of}
use Rattle.nn_ops.specs.declared.command.Command.{Command}
use Rattle.nn_ops.specs.declared.command.Command.TheVariants.{Mkdir, Create, AddBlock, Close, Delete, Rename, Chmod, Chown, SetQuota, Setrep}
use Rattle.nn_ops.specs.declared.refusal.OpRefusal.TheVariants.{Exists, NotFound, NotDir, IsDir, Under, Root, Closed, Quota, Limit}
use Rattle.nn_ops.specs.Above.{is_above, has_room, has_room_but, one_name, bytes_more}
use Rattle.nn_ops.specs.Bounds.{is_full, is_full_at, is_bad_replication, is_bad_length, is_zero, moves_short}
use Rattle.nn_quota.specs.Quotas.{IsQuota}
use Rattle.nn_base.specs.First.{when}
use Rattle.nn_base.specs.Limits.{most_mode}
use Rattle.nn_ops.specs.Refusals.{Test, walk}

-- the ranges of the numbers in a command that no test of it asks about
abbrev pub IsCommand : Command → Type 0
IsCommand (Chmod path mode) = mode ≤ most_mode
IsCommand (SetQuota path quota) = IsQuota quota
IsCommand (Mkdir path) = Unit {0}
IsCommand (Create path replication) = Unit {0}
IsCommand (AddBlock path length) = Unit {0}
IsCommand (Close path) = Unit {0}
IsCommand (Delete path) = Unit {0}
IsCommand (Rename from to) = Unit {0}
IsCommand (Chown path owner group) = Unit {0}
IsCommand (Setrep path replication) = Unit {0}

-- ---- what stands at a path

abbrev pub is_open : Kind → Bool
is_open (File replication open_ blocks) = open_
is_open (Dir quota) = false

abbrev pub is_open_at : Nodes → Names → Bool
is_open_at m p = option_map_or (λ node. is_open node.kind) (get m p) false

abbrev pub replication_in : Kind → ℕ
replication_in kind = unwrap_or (replication_of kind) 0

abbrev pub replication_at : Nodes → Names → ℕ
replication_at m p = option_map_or (λ node. replication_in node.kind) (get m p) 0

-- the bytes that a file takes more with another replication; 0 where it takes less
abbrev pub growth_at : Nodes → Names → ℕ → ℕ
growth_at m p replication = option_map_or (λ node. replication * length_of (blocks_of node.kind) - space_of node.kind) (get m p) 0

abbrev pub is_root : Names → Bool
is_root p = is_under p []

-- ---- the first tests of many commands

-- for a new node: that the place is free
abbrev pub free_tests : Nodes → Names → List Test
free_tests m path = walk m path ∷ when (is_some (get m path)) Exists ∷ []

-- and, at its end, that one node more is within the bounds and the quotas
abbrev pub room_tests : Namespace → Names → List Test
room_tests ns path = when (is_full ns) Limit ∷ when (not (has_room ns.nodes one_name path)) Quota ∷ []

-- for a node that is there
abbrev pub node_tests : Nodes → Names → List Test
node_tests m path = walk m path ∷ when (is_none (get m path)) NotFound ∷ []

-- for a file
abbrev pub file_tests : Nodes → Names → List Test
file_tests m path = walk m path ∷ when (is_none (get m path)) NotFound ∷ when (is_dir_at m path) IsDir ∷ []

-- for a file that is open
abbrev pub open_tests : Nodes → Names → List Test
open_tests m path = walk m path ∷ when (is_none (get m path)) NotFound ∷ when (is_dir_at m path) IsDir ∷ when (not (is_open_at m path)) Closed ∷ []

-- for a node that moves
abbrev pub moved_tests : Nodes → Names → Names → List Test
moved_tests m from to = when (is_root from || is_root to) Root ∷ walk m from ∷ when (is_none (get m from)) NotFound ∷ when (is_above from to) Under ∷ []

-- ---- all tests of a command

abbrev pub tests_of : Namespace → Command → List Test
tests_of ns (Mkdir path) =
    walk ns.nodes path
    ∷ when (is_some (get ns.nodes path)) Exists
    ∷ when (is_full ns) Limit
    ∷ when (not (has_room ns.nodes one_name path)) Quota
    ∷ []
tests_of ns (Create path replication) =
    walk ns.nodes path
    ∷ when (is_some (get ns.nodes path)) Exists
    ∷ when (is_bad_replication replication) Limit
    ∷ when (is_full ns) Limit
    ∷ when (not (has_room ns.nodes one_name path)) Quota
    ∷ []
tests_of ns (AddBlock path length) =
    walk ns.nodes path
    ∷ when (is_none (get ns.nodes path)) NotFound
    ∷ when (is_dir_at ns.nodes path) IsDir
    ∷ when (not (is_open_at ns.nodes path)) Closed
    ∷ when (is_bad_length length) Limit
    ∷ when (is_full_at ns path) Limit
    ∷ when (not (has_room ns.nodes (bytes_more (replication_at ns.nodes path * length)) path)) Quota
    ∷ []
tests_of ns (Close path) =
    walk ns.nodes path
    ∷ when (is_none (get ns.nodes path)) NotFound
    ∷ when (is_dir_at ns.nodes path) IsDir
    ∷ when (not (is_open_at ns.nodes path)) Closed
    ∷ []
tests_of ns (Delete path) =
    when (is_root path) Root
    ∷ walk ns.nodes path
    ∷ when (is_none (get ns.nodes path)) NotFound
    ∷ []
tests_of ns (Rename from to) =
    when (is_root from || is_root to) Root
    ∷ walk ns.nodes from
    ∷ when (is_none (get ns.nodes from)) NotFound
    ∷ when (is_above from to) Under
    ∷ walk ns.nodes to
    ∷ when (is_some (get ns.nodes to)) Exists
    ∷ when (not (moves_short ns.nodes from to)) Limit
    ∷ when (not (has_room_but ns.nodes (λ q. is_above q from) (usage_of ns.nodes from) to)) Quota
    ∷ []
tests_of ns (Chmod path mode) =
    walk ns.nodes path
    ∷ when (is_none (get ns.nodes path)) NotFound
    ∷ []
tests_of ns (Chown path owner group) =
    walk ns.nodes path
    ∷ when (is_none (get ns.nodes path)) NotFound
    ∷ []
tests_of ns (SetQuota path quota) =
    walk ns.nodes path
    ∷ when (is_none (get ns.nodes path)) NotFound
    ∷ when (not (is_dir_at ns.nodes path)) NotDir
    ∷ when (is_zero quota.names) Limit
    ∷ []
tests_of ns (Setrep path replication) =
    walk ns.nodes path
    ∷ when (is_none (get ns.nodes path)) NotFound
    ∷ when (is_dir_at ns.nodes path) IsDir
    ∷ when (is_bad_replication replication) Limit
    ∷ when (not (has_room ns.nodes (bytes_more (growth_at ns.nodes path replication)) path)) Quota
    ∷ []
