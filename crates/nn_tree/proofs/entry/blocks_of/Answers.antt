use Rattle.std.proofs.Common.{◌∙◌}
use Rattle.nn_tree.proofs.PlainClimb.{share_free, share_blocks}
use Rattle.nn_tree.proofs.entry.blocks_of.Goals as goal

pub returns-else-entry : goal.returns-else-entry
returns-else-entry c = share_free c.args.entries.now c.args.i c.index-entries-i.result c.requires.tree c.requires.within c.index-entries-i.is c.if-entry.false _

pub returns-then-entry : goal.returns-then-entry
returns-then-entry c = c.block_count.ensures ∙ share_blocks c.args.entries.now c.args.i c.index-entries-i.result c.requires.tree c.requires.within c.index-entries-i.is c.if-entry.true
