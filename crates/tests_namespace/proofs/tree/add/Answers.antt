use Rattle.std.proofs.Common.{arith, ◌<◌, length}
use Rattle.nn_tree.specs.Nodes.{blocks_of}
use Rattle.nn_tree.specs.Namespace.{block_count}
use Rattle.nn_tree.proofs.LimitsLemmas.{limits_block}
use Rattle.tests_namespace.proofs.tree.add.Goals as goal

pub add_block-requires-clause-limits : goal.add_block-requires-clause-limits
add_block-requires-clause-limits g c =
    let few : length (blocks_of c.node.result.now.kind) < 10000 = omega arith in
    let room : block_count (g.T.Tree.meaning c.reserve.new.self).nodes < 8388608 = omega arith in
    limits_block (g.T.Tree.meaning c.reserve.new.self).nodes _ c.args.block c.node.result.now c.counters-counters.ensures.sound.limits c.node.ensures c.requires few room
