use Rattle.nn_ops.proofs.NodeLemmas.{limits_added}
use Rattle.nn_ops.proofs.work.add_block.Goals as goal

pub add_block-requires-clause-limits : goal.add_block-requires-clause-limits
add_block-requires-clause-limits g c =
    limits_added (g.T.Tree.meaning c.args.tree.now).nodes _ c.args.block c.node-node.result.now c.counters-counters.ensures.sound.limits c.node-node.ensures c.requires.bounds c.requires.few c.requires.few_in_all
