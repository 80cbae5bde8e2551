use Rattle.std.proofs.Common.{arith, ◌≡◌, ◌<◌, length, List}
use Rattle.nn_tree.specs.declared.entry.Entry.{Entry}
use Rattle.nn_tree.specs.Nodes.{blocks_of}
use Rattle.nn_tree.proofs.PlainClimb.{share_more, share_all, few_blocks}
use Rattle.nn_tree.proofs.plain.PlainTreeTree.blocks.Goals as goal

pub overflow_add-count : goal.overflow_add-count
overflow_add-count c =
    let sum = share_more c.args.self.now.entries.items c.deref.result.now (λ (es : List Entry) p node. length (blocks_of node.kind)) c.loop-i.i c.loop-i.count c.blocks_of-count.result c.deref.ensures.value c.loop-i.invariant c.blocks_of-count.ensures in
    let within : c.loop-i.i < length c.args.self.now.entries.items = omega arith in
    omega (arith, few_blocks c.args.self.now.entries.items c.loop-i.i c.loop-i.count c.blocks_of-count.result c.args.self.now.tree c.args.self.now.limits within sum)

pub loop-i-preserved : goal.loop-i-preserved
loop-i-preserved c =
    share_more c.args.self.now.entries.items c.deref.result.now (λ (es : List Entry) p node. length (blocks_of node.kind)) c.loop-i.i c.loop-i.count c.blocks_of-count.result c.deref.ensures.value c.loop-i.invariant c.blocks_of-count.ensures

pub returns : goal.returns
returns c =
    let all : c.loop-i.i ≡ length c.args.self.now.entries.items = omega arith in
    share_all c.args.self.now.entries.items (λ p node. length (blocks_of node.kind)) c.loop-i.i c.loop-i.count c.args.self.now.tree all c.loop-i.invariant
