use Rattle.std.proofs.Common.{sym, subst}
use Rattle.nn_tree.specs.Namespace.{Namespace}
use Rattle.nn_tree.specs.Limits.{IsWithinLimits}
use Rattle.nn_ops.proofs.NodeLemmas.{limits_new, limits_touch, free_name, in_directory}
use Rattle.nn_ops.proofs.work.put.Goals as goal

pub insert-made-requires-clause-in_dir : goal.insert-made-requires-clause-in_dir
insert-made-requires-clause-in_dir g c = in_directory (g.T.Tree.meaning c.args.tree.now).nodes _ c.args.name c.requires.free

pub insert-made-requires-clause-free : goal.insert-made-requires-clause-free
insert-made-requires-clause-free g c = free_name (g.T.Tree.meaning c.args.tree.now).nodes _ c.requires.free

pub insert-made-requires-clause-limits : goal.insert-made-requires-clause-limits
insert-made-requires-clause-limits g c =
    let m = (g.T.Tree.meaning c.args.tree.now).nodes in
    limits_new m _ c.args.node c.counters-counters.ensures.sound.limits (free_name m _ c.requires.free) c.requires.bounds c.requires.empty c.requires.few

pub change-requires-clause-limits : goal.change-requires-clause-limits
change-requires-clause-limits g c =
    let m = (g.T.Tree.meaning c.args.tree.now).nodes in
    let added = limits_new m _ c.args.node c.counters-counters.ensures.sound.limits (free_name m _ c.requires.free) c.requires.bounds c.requires.empty c.requires.few in
    limits_touch _ _ _ (subst (λ (ns : Namespace). IsWithinLimits ns.nodes) (sym c.insert-made.ensures.means) added) c.requires.bounds.time
