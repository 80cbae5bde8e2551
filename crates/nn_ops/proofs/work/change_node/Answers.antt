use Rattle.nn_ops.proofs.NodeLemmas.{limits_changed}
use Rattle.nn_ops.proofs.work.change_node.Goals as goal

pub change-requires-clause-limits : goal.change-requires-clause-limits
change-requires-clause-limits g c = limits_changed (g.T.Tree.meaning c.args.tree.now).nodes _ c.args.new c.counters-counters.ensures.sound.limits c.requires.bounds
