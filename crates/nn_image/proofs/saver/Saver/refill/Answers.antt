use Rattle.std.proofs.Common.{◌++◌, ℕ, List, sym, ap, ◌∙◌}
use Rattle.nn_image.specs.Saving.{Target, left, rest, target_of}
use Rattle.nn_image.proofs.saver.Saver.refill.Goals as goal

pub returns-clause-left : goal.returns-clause-left
unfolding left
returns-clause-left g c =
    let ns = g.T.Tree.meaning c.args.tree.now in
    let has = g.T.Tree.has c.args.tree.now in
    let place = g.T.Tree.place c.args.tree.now in
    let to = λ (names : List (List ℕ)). rest (let t : Target = record { ns = ns; has = has; place = place; table = names; task = c.args.self.now.task } in t) c.in_ok-self.field-0.stage in
    ap (λ names. c.advance.new.out.items ++ to names) c.in_ok-self.ensures.kept ∙ sym c.in_ok-self.ensures.ok.put
    ∙ ap (λ t. t ++ rest (target_of c.args.self.now ns has place) c.args.self.now.progress.stage) (sym c.requires.given)
