use Rattle.std.proofs.Common.{subst}
use Rattle.nn_ops.specs.declared.plan.Plan.{Plan}
use Rattle.nn_ops.specs.Plans.{IsReady}
use Rattle.nn_ops.proofs.ReadyLemmas.{can_put, can_move}
use Rattle.nn_ops.proofs.effects.carry_out.Goals as goal

pub put-requires : goal.put-requires
put-requires g c =
    let has = g.T.Tree.has c.args.tree.now in
    let place = g.T.Tree.place c.args.tree.now in
    let spare = g.T.Tree.spare c.args.tree.now in
    let ns = g.T.Tree.meaning c.args.tree.now in
    can_put c.in-New.parent c.in-New.name c.in-New.node has place spare ns c.args.plan.op
    (subst (λ (plan : Plan). IsReady plan has place spare ns) (λ i. record { op = c.args.plan.op; target = c.in-New.is i }) c.requires)

pub move_node-requires-clause-can : goal.move_node-requires-clause-can
move_node-requires-clause-can g c =
    let has = g.T.Tree.has c.args.tree.now in
    let place = g.T.Tree.place c.args.tree.now in
    let spare = g.T.Tree.spare c.args.tree.now in
    let ns = g.T.Tree.meaning c.args.tree.now in
    can_move c.in-Move.at c.in-Move.parent c.in-Move.name has place spare ns c.in-RenameOld.from c.in-RenameOld.to c.in-RenameOld.time
    (subst (λ (plan : Plan). IsReady plan has place spare ns) (λ i. record { op = c.in-RenameOld.is i; target = c.in-Move.is i }) c.requires)
