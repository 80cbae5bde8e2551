-- What tests of bounds say where they don't apply.
use Rattle.std.proofs.Common.{◌≡◌, ◌<◌, ◌≤◌, ℕ, false, arith, ◌+◌}
use Rattle.std.proofs.lemmas.Bool.{leb-false, eqb-false}
use Rattle.nn_base.specs.Paths.{Names}
use Rattle.nn_base.specs.Limits.{most_nodes, most_blocks, most_blocks_of_file, most_replication, most_block_length}
use Rattle.nn_tree.specs.Namespace.{Namespace, node_count, block_count}
use Rattle.nn_ops.specs.Bounds.{is_used_up, is_full, is_full_at, is_bad_replication, is_bad_length, blocks_at}
use Rattle.nn_ops.proofs.RefusalLemmas.{left_false, right_false}

pub not_full : (ns : Namespace) → is_full ns ≡ false → node_count ns.nodes < most_nodes
not_full ns h = leb-false most_nodes (node_count ns.nodes) (left_false _ _ h)

pub file_not_full : (ns : Namespace) (p : Names) → is_full_at ns p ≡ false → (blocks_at ns.nodes p < most_blocks_of_file) × (block_count ns.nodes < most_blocks)
file_not_full ns p h =
    let first = left_false _ (is_used_up ns.counters.block) (left_false _ (is_used_up ns.counters.stamp) h) in
    (leb-false most_blocks_of_file (blocks_at ns.nodes p) (left_false _ _ first), leb-false most_blocks (block_count ns.nodes) (right_false _ _ first))

pub good_replication : (r : ℕ) → is_bad_replication r ≡ false → (0 < r) × (r ≤ most_replication)
good_replication r h =
    let most : r < most_replication + 1 = leb-false (most_replication + 1) r (right_false _ _ h) in
    let some = eqb-false r 0 (left_false _ _ h) in
    (omega arith, omega arith)

pub good_length : (n : ℕ) → is_bad_length n ≡ false → (0 < n) × (n ≤ most_block_length)
good_length n h =
    let most : n < most_block_length + 1 = leb-false (most_block_length + 1) n (right_false _ _ h) in
    let some = eqb-false n 0 (left_false _ _ h) in
    (omega arith, omega arith)
