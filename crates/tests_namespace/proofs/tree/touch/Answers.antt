use Rattle.nn_tree.proofs.LimitsLemmas.{limits_time}
use Rattle.tests_namespace.proofs.tree.touch.Goals as goal

pub change-requires-clause-limits : goal.change-requires-clause-limits
change-requires-clause-limits g c =
    limits_time (g.T.Tree.meaning c.args.tree.now).nodes _ c.args.time c.node-node.result.now c.counters-counters.ensures.sound.limits c.node-node.ensures c.requires
