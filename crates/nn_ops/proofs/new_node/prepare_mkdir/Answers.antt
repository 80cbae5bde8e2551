use Rattle.nn_ops.specs.Commands.{free_tests, room_tests}
use Rattle.nn_ops.proofs.RefusalLemmas.{passed_on}
use Rattle.nn_ops.proofs.new_node.prepare_mkdir.Goals as goal

pub returns-in_err-room_for_node-clause-err : goal.returns-in_err-room_for_node-clause-err
returns-in_err-room_for_node-clause-err g c =
    let ns = g.T.Tree.meaning c.args.tree.now in
    passed_on (free_tests ns.nodes c.args.path) (room_tests ns c.args.path) _ _ c.in_ok-parent.ensures.ok c.from_residual-in_err-room_for_node.ensures.1
    (c.in_err-room_for_node.ensures.err c.args.path c.in_ok-parent.ensures.below_root c.in_ok-parent.ensures.above)
