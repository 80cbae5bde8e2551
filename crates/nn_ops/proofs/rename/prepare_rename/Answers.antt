use Rattle.std.proofs.Common.{refl, sym, ap, ◌∙◌, ◌≡◌, true}
use Rattle.nn_base.specs.Paths.{Names}
use Rattle.nn_ops.specs.Bounds.{moves_short}
use Rattle.nn_ops.specs.Commands.{free_tests, moved_tests}
use Rattle.nn_ops.proofs.MoveLemmas.{last_tests, all_passed, move_ready, not_below}
use Rattle.nn_ops.proofs.RefusalLemmas.{passed_on_early}
use Rattle.nn_ops.proofs.rename.prepare_rename.Goals as goal

pub returns-in_err-parent-clause-err : goal.returns-in_err-parent-clause-err
returns-in_err-parent-clause-err g c =
    let m = (g.T.Tree.meaning c.args.tree.now).nodes in
    passed_on_early (moved_tests m c.args.from c.args.to) (free_tests m c.args.to) (last_tests m c.args.from c.args.to) _ _ c.in_ok-at.ensures.ok c.from_residual-in_err-parent.ensures.1 (λ _. c.in_err-parent.ensures.err)

pub fits_move-requires-clause-outside : goal.fits_move-requires-clause-outside
fits_move-requires-clause-outside g c = not_below (g.T.Tree.meaning c.args.tree.now).nodes c.args.from c.args.to c.in_ok-at.ensures.ok c.in_ok-parent.ensures.ok

pub returns-clause-ready : goal.returns-clause-ready
returns-clause-ready g c =
    let ns = g.T.Tree.meaning c.args.tree.now in
    let from = c.args.from in
    let to = c.args.to in
    let short : moves_short ns.nodes from to ≡ true = ap (λ (p : Names). moves_short ns.nodes p to) (sym c.in_ok-at.ensures.at) ∙ sym c.if-not-moves_short.ensures in
    move_ready ns (g.T.Tree.has c.args.tree.now) (g.T.Tree.place c.args.tree.now) (g.T.Tree.spare c.args.tree.now) c.in_ok-at.at c.in_ok-parent.parent c.in_ok-name.name from to from to c.args.now
    (all_passed ns from to c.in_ok-at.ensures.ok c.in_ok-parent.ensures.ok short (sym c.if-not-fits_move.ensures))
    refl refl c.in_ok-at.ensures.there c.in_ok-at.ensures.at c.in_ok-parent.ensures.there c.in_ok-parent.ensures.above c.in_ok-name.ensures c.depth-depth.ensures.path c.requires
