use Rattle.std.proofs.Common.{◌≡◌, ◌++◌, take}
use Rattle.nn_message.specs.Spelling as spelling
use Rattle.nn_message.proofs.inode.put_blocks.Given as goal

-- the blocks so far were put
abbrev pub invariant-loop-block : goal.invariant-loop-block
invariant-loop-block l = l.out.items ≡ l.fn.out.items ++ spelling.blocks_field (take l.block-index l.block-items)
