use Rattle.std.proofs.Common.{◌≡◌, List, length, ◌+◌}
use Rattle.std.specs.Prelude.{All}
use Rattle.nn_base.specs.Limits.{most_blocks}
use Rattle.nn_message.specs.Messages.{Inode, IsInode}
use Rattle.nn_image.specs.Building.{inodes_text, blocks_among}
use Rattle.nn_image.proofs.count.have_few_counted.Given as goal

-- the blocks so far and the room that is left are the limit together
abbrev pub invariant-nodes : goal.invariant-nodes
invariant-nodes l = (all : List Inode) → All IsInode all → l.fn.inodes ≡ inodes_text all →
    (ahead : List Inode) × All IsInode ahead × (l.rest ≡ inodes_text ahead) × (length (blocks_among all) + l.room ≡ most_blocks + length (blocks_among ahead))

abbrev pub decreases-nodes : goal.decreases-nodes
decreases-nodes l = length l.rest
