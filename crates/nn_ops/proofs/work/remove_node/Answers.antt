use Rattle.std.proofs.Common.{refl, ◌∙◌}
use Rattle.nn_ops.proofs.WorkLemmas.{not_under_parent, parent_is, stays_removed, touched_then}
use Rattle.nn_ops.proofs.work.remove_node.Goals as goal

pub change_node-requires : goal.change_node-requires
change_node-requires g c =
    let up = c.in-Some.ensures.1 in
    record {
      there = stays_removed _ (g.T.Tree.has c.args.tree.now) (g.T.Tree.has c.remove.new.self) (g.T.Tree.place c.args.tree.now) (g.T.Tree.place c.remove.new.self) c.in-Some.above c.remove.ensures.removes c.in-Some.ensures.0 (not_under_parent _ (g.T.Tree.place c.args.tree.now c.in-Some.above) up.0 up.1);
      takes = refl;
      bounds = c.requires.time;
    }

pub returns : goal.returns
returns g c =
    let up = c.in-Some.ensures.1 in
    let here = stays_removed _ (g.T.Tree.has c.args.tree.now) (g.T.Tree.has c.remove.new.self) (g.T.Tree.place c.args.tree.now) (g.T.Tree.place c.remove.new.self) c.in-Some.above c.remove.ensures.removes c.in-Some.ensures.0 (not_under_parent _ (g.T.Tree.place c.args.tree.now c.in-Some.above) up.0 up.1) in
    touched_then (g.T.Tree.meaning c.args.tree.now) (g.T.Tree.meaning c.remove.new.self) _ _ (g.T.Tree.place c.remove.new.self c.in-Some.above) _ c.args.time
    c.remove.ensures.means c.change_node.ensures.means (c.remove.ensures.removes.same c.in-Some.above here ∙ parent_is _ (g.T.Tree.place c.args.tree.now c.in-Some.above) up.0 up.1)
