use Rattle.std.proofs.Common.{ℕ, subst, length}
use Rattle.nn_ops.specs.Bounds.{TellsShort}
use Rattle.nn_ops.proofs.ShortLemmas.{told_moves}
use Rattle.nn_ops.proofs.rename.moves_short.Goals as goal

pub returns : goal.returns
returns g c =
    let m = (g.T.Tree.meaning c.args.tree.now).nodes in
    let p = g.T.Tree.place c.args.tree.now c.args.at in
    let h = subst (λ (n : ℕ). TellsShort c.below_is_short.result m p n c.text_size.result) c.depth.ensures.value c.below_is_short.ensures in
    told_moves c.below_is_short.result m p c.args.to.now (subst (λ (n : ℕ). TellsShort c.below_is_short.result m p (length c.args.to.now) n) c.text_size.ensures.size h)
