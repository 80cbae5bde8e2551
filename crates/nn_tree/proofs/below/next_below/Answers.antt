use Rattle.nn_tree.proofs.NextLemmas.{reach_children, next_is}
use Rattle.nn_tree.proofs.below.next_below.Goals as goal

pub returns-in-Some : goal.returns-in-Some
returns-in-Some g c =
    let at = g.T.Tree.place c.args.tree.now c.args.at in
    let sound = c.counters-counters.ensures.sound in
    next_is (g.T.Tree.meaning c.args.tree.now) (g.T.Tree.has c.args.tree.now) (g.T.Tree.place c.args.tree.now) sound (g.T.Tree.place c.args.tree.now c.args.top) at at _ c.in-Some.child
    (reach_children (g.T.Tree.meaning c.args.tree.now).nodes at sound.formed) c.requires.under c.in-Some.ensures
