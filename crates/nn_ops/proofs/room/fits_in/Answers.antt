use Rattle.std.proofs.Common.{sym, ap, ◌∙◌, ◌++◌, ◌∷◌, []}
use Rattle.nn_base.specs.Paths.{Names}
use Rattle.nn_ops.proofs.AboveLemmas.{room_fails, room_goes_on}
use Rattle.nn_ops.proofs.WalkLemmas.{last_of}
use Rattle.nn_ops.proofs.room.fits_in.Goals as goal

pub returns-then-fits_at : goal.returns-then-fits_at
returns-then-fits_at g c = λ p deep above.
    let l = last_of p deep in
    c.fits_above.ensures ∙ sym (room_goes_on (g.T.Tree.meaning c.args.tree.now).nodes c.args.more p (g.T.Tree.place c.args.tree.now c.args.parent) l.0 (l.1 ∙ ap (λ (q : Names). q ++ l.0 ∷ []) (sym above)) (sym c.if-fits_at.ensures))

pub returns-else-fits_at : goal.returns-else-fits_at
returns-else-fits_at g c = λ p deep above.
    let l = last_of p deep in
    c.fits_at.ensures ∙ sym c.if-fits_at.ensures ∙ sym (room_fails (g.T.Tree.meaning c.args.tree.now).nodes c.args.more p (g.T.Tree.place c.args.tree.now c.args.parent) l.0 (l.1 ∙ ap (λ (q : Names). q ++ l.0 ∷ []) (sym above)) (sym c.if-fits_at.ensures))
