use Rattle.std.proofs.Common.{ap, ◌∙◌}
use Rattle.nn_tree.specs.Changes.{changed, change_at, takes_change}
use Rattle.nn_image.proofs.SeedLemmas.{alone_changed, changed_within}
use Rattle.nn_image.proofs.seed.set_root.Goals as goal

pub change-requires-clause-takes : goal.change-requires-clause-takes
change-requires-clause-takes g c = ap (λ p. takes_change (g.T.Tree.meaning c.args.tree.now).nodes p c.args.change) c.requires.top ∙ c.requires.takes

pub change-requires-clause-limits : goal.change-requires-clause-limits
change-requires-clause-limits g c =
    let a = c.requires.alone in
    changed_within (g.T.Tree.meaning c.args.tree.now).nodes (g.T.Tree.place c.args.tree.now c.args.root) a.0 c.args.change a.1 c.requires.top a.4

pub returns-clause-means : goal.returns-clause-means
returns-clause-means g c = λ node is.
    ap (λ ns. ns.nodes) c.change.ensures.means ∙ (λ i. change_at (c.requires.top i) (changed c.args.change) (is i)) ∙ alone_changed node (changed c.args.change)
