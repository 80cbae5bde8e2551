use Rattle.std.proofs.Common.{◌≡◌, sym, ap, ◌∙◌, Some}
use Rattle.nn_ops.specs.Bodies.{op_of, command_of_op, time_of}
use Rattle.nn_ops.specs.Replays.{assigned_by}
use Rattle.nn_ops.specs.Effects.{effect}
use Rattle.nn_ops.proofs.ReplayLemmas.{same_body, fits_so}
use Rattle.nn_ops.proofs.replayed.replay.Goals as goal

pub returns-else-not-same_assigned-clause-ok : goal.returns-else-not-same_assigned-clause-ok
returns-else-not-same_assigned-clause-ok g c =
    let ns = g.T.Tree.meaning c.args.tree.now in
    let op = c.args.op.now in
    let is : command_of_op op ≡ Some c.in-Some.command = sym c.in_ok-command.ensures ∙ c.in-Some.is in
    let planned : c.op.result.now ≡ op_of ns c.in-Some.command (time_of op) = c.op.ensures ∙ c.in-Ok.ensures.body ∙ ap (op_of ns c.in-Some.command) c.time_in.ensures in
    let same : assigned_by (op_of ns c.in-Some.command (time_of op)) ≡ assigned_by op =
    sym (ap assigned_by planned) ∙ sym c.assigned_in.ensures ∙ c.same_assigned.ensures.same c.if-not-same_assigned.false ∙ c.assigned_in-in-Ok.ensures in
    fits_so ns op c.in-Some.command is c.in-Ok.ensures.ok (same_body ns op c.in-Some.command is same)

pub returns-else-not-same_assigned-clause-after : goal.returns-else-not-same_assigned-clause-after
returns-else-not-same_assigned-clause-after g c =
    let ns = g.T.Tree.meaning c.args.tree.now in
    let op = c.args.op.now in
    let is : command_of_op op ≡ Some c.in-Some.command = sym c.in_ok-command.ensures ∙ c.in-Some.is in
    let planned : c.op.result.now ≡ op_of ns c.in-Some.command (time_of op) = c.op.ensures ∙ c.in-Ok.ensures.body ∙ ap (op_of ns c.in-Some.command) c.time_in.ensures in
    let same : assigned_by (op_of ns c.in-Some.command (time_of op)) ≡ assigned_by op =
    sym (ap assigned_by planned) ∙ sym c.assigned_in.ensures ∙ c.same_assigned.ensures.same c.if-not-same_assigned.false ∙ c.assigned_in-in-Ok.ensures in
    let body : c.in-Ok.plan.op ≡ op = sym c.op.ensures ∙ planned ∙ same_body ns op c.in-Some.command is same in
    c.apply.ensures.done ∙ (λ i. effect (body i) (c.in-Ok.ensures.kept i))
