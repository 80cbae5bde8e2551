use Rattle.std.proofs.Common.{◌≡◌, List, length, ◌+◌, ◌≤◌}
use Rattle.std.specs.Prelude.{All}
use Rattle.nn_tree.specs.declared.node.Block.{Block}
use Rattle.nn_tree.specs.Limits.{IsBlock}
use Rattle.nn_message.specs.Spelling.{blocks_field}
use Rattle.nn_image.proofs.count.count_blocks.Given as goal

-- what was counted, and the blocks to come
abbrev pub invariant-fields : goal.invariant-fields
invariant-fields l = record {
  few : l.count + length l.rest ≤ length l.fn.bytes;
  left : (blocks : List Block) → All IsBlock blocks → l.fn.bytes ≡ blocks_field blocks →
      (ahead : List Block) × All IsBlock ahead × (l.rest ≡ blocks_field ahead) × (l.count + length ahead ≡ length blocks);
}

abbrev pub decreases-fields : goal.decreases-fields
decreases-fields l = length l.rest
