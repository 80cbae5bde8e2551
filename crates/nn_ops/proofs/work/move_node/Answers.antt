use Rattle.std.proofs.Common.{ap, ◌∙◌}
use Rattle.nn_base.specs.Paths.{Names}
use Rattle.nn_tree.specs.declared.spot.Spot.{Spot}
use Rattle.nn_ops.proofs.NodeLemmas.{in_directory}
use Rattle.nn_ops.proofs.WorkLemmas.{not_under_parent, parent_is, stays_moved, moved_then}
use Rattle.nn_ops.proofs.work.move_node.Goals as goal

pub relink-requires-clause-in_dir : goal.relink-requires-clause-in_dir
relink-requires-clause-in_dir g c = in_directory (g.T.Tree.meaning c.args.tree.now).nodes _ c.args.name c.requires.can.free

pub returns : goal.returns
returns g c =
    let up = c.in-Some.ensures.1 in
    let had = g.T.Tree.has c.args.tree.now in
    let has = g.T.Tree.has c.relink.new.self in
    let was = g.T.Tree.place c.args.tree.now in
    let is = g.T.Tree.place c.relink.new.self in
    let above = stays_moved _ _ had has was is c.in-Some.above c.relink.ensures.keeps c.in-Some.ensures.0 (not_under_parent _ (was c.in-Some.above) up.0 up.1) ∙ parent_is _ (was c.in-Some.above) up.0 up.1 in
    let to = ap (λ (f : Spot → Names). f c.args.parent) c.change_node.ensures.place ∙ stays_moved _ _ had has was is c.args.parent c.relink.ensures.keeps c.requires.can.to c.requires.can.outside in
    moved_then (g.T.Tree.meaning c.args.tree.now) (g.T.Tree.meaning c.relink.new.self) (g.T.Tree.meaning c.change_node.new.tree) _ (was c.args.at) _ (is c.in-Some.above) _ _ _ c.args.time
    c.relink.ensures.means c.change_node.ensures.means c.change_node-in-Some.ensures.means above to
