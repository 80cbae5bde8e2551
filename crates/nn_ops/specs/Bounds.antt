-- What goes past the bounds of a namespace.
use Rattle.std.specs.Prelude.{◌≡◌, ℕ, ◌+◌, Bool, true, false, not, ◌&&◌, ◌||◌, ◌==◌, nat_le, nat_lt, ◌++◌, length, Option, Some, None, is_some}
use Rattle.std.specs.List.{list_all}
use Rattle.std.specs.Option.{option_map_or}
use Rattle.std.specs.FinMap.{get, entries}
use Rattle.nn_base.specs.Limits.{most_nodes, most_blocks, most_blocks_of_file, most_block_length, most_replication, most_levels, most_path}
use Rattle.nn_base.specs.Paths.{Names, joined, is_under}
use Rattle.nn_tree.specs.Nodes.{blocks_of}
use Rattle.nn_tree.specs.Namespace.{Namespace, Nodes, node_count, block_count}
use Rattle.nn_tree.specs.Changes.{moved}

-- whether a counter stands at 2^63 - 1, the greatest number that it may give
abbrev pub is_used_up : ℕ → Bool
is_used_up counter = nat_le 9223372036854775807 counter

-- no further node: 1,048,576 are the most
abbrev pub is_full : Namespace → Bool
is_full ns = nat_le most_nodes (node_count ns.nodes) || is_used_up ns.counters.inode

abbrev pub blocks_at : Nodes → Names → ℕ
blocks_at m p = option_map_or (λ node. length (blocks_of node.kind)) (get m p) 0

-- no further block in the file p: 10,000 in a file and 8,388,608 in all are the most
abbrev pub is_full_at : Namespace → Names → Bool
is_full_at ns p = nat_le most_blocks_of_file (blocks_at ns.nodes p) || nat_le most_blocks (block_count ns.nodes) || is_used_up ns.counters.block || is_used_up ns.counters.stamp

-- a replication is 1 to 512
abbrev pub is_bad_replication : ℕ → Bool
is_bad_replication replication = (replication == 0) || nat_lt most_replication replication

-- a block has 1 to 2^40 bytes
abbrev pub is_bad_length : ℕ → Bool
is_bad_length length = (length == 0) || nat_lt most_block_length length

-- a quota of names is at least 1, as a directory counts itself
abbrev pub is_zero : Option ℕ → Bool
is_zero None = false
is_zero (Some n) = n == 0

-- a path has at most 1,000 levels and 8,000 bytes
abbrev pub is_short : Names → Bool
is_short p = nat_le (length p) most_levels && nat_le (length (joined p)) most_path

-- whether s, and all that stands below it, has a path that is short enough once it was moved to d
abbrev pub moves_short : Nodes → Names → Names → Bool
moves_short m s d = list_all (λ e. not (is_under s e.0) || is_short (moved s d e.0)) (entries m)

-- ---- the same, told from the node that moves: its new path has so many levels and bytes

-- whether a node below it, at these further names, has a path that is short enough
abbrev pub is_short_by : ℕ → ℕ → Names → Bool
is_short_by levels size rest = nat_le (levels + length rest) most_levels && nat_le (size + length (joined rest)) most_path

-- all nodes at and below p have, or one that is there has not
abbrev pub TellsShort : Bool → Nodes → Names → ℕ → ℕ → Type 0
TellsShort true m p levels size = (rest : Names) → is_some (get m (p ++ rest)) ≡ true → is_short_by levels size rest ≡ true
TellsShort false m p levels size = (rest : Names) × (is_some (get m (p ++ rest)) ≡ true) × (is_short_by levels size rest ≡ false)
