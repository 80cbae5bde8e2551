use Rattle.std.proofs.Common.{◌≡◌, ◌++◌, length, min, sym, ap, subst, ◌∙◌, arith}
use Rattle.nn_base.specs.Limits.{most_piece}
use Rattle.nn_image.specs.Saving.{Saves, left}
use Rattle.nn_image.proofs.SaverLemmas.{given_saves, given_left, none_left, full_piece, last_piece}
use Rattle.nn_image.proofs.saver.Saver.next.Goals.{then-self-len+else-is_done+in_ok-refill, else-self-len, else-piece-test, then-piece-test+then-self-len+then-is_done}
use Rattle.nn_image.proofs.saver.Saver.next.Goals as goal

pub piece-preserved : goal.piece-preserved
piece-preserved g c =
    let ns = g.T.Tree.meaning c.args.tree.now in
    let has = g.T.Tree.has c.args.tree.now in
    let place = g.T.Tree.place c.args.tree.now in
    let s = c.if-self-len.self in
    let ready = elim c.if-self-len.branch as (λ _. Saves s ns has place × (left c.piece.self ns has place ≡ left s ns has place)) [
      | then-self-len+else-is_done+in_ok-refill w ↦ (
        subst (λ s. Saves s ns has place) (sym w.self-is) w.in_ok-refill.ensures.kept,
        sym w.in_ok-refill.ensures.left ∙ ap (λ s. left s ns has place) (sym w.self-is),
      )
      | else-self-len w ↦ (subst (λ s. Saves s ns has place) (sym w.self-is) c.piece.invariant.saves, ap (λ s. left s ns has place) (sym w.self-is))
    ] in
    let e = c.in_ok-give.ensures in
    record {
      saves = given_saves ns has place s c.give.new.self e.task e.names e.progress e.within ready.0;
      left = given_left ns has place s c.give.new.self (left c.args.self.now ns has place) c.piece.out.items c.give.new.out.items e.task e.names e.progress e.text (c.piece.invariant.left ∙ ap (λ t. c.piece.out.items ++ t) ready.1);
      room = omega (arith, e.room, c.give.new.out.ok.0);
    }

pub returns-clause-len : goal.returns-clause-len
returns-clause-len g c =
    let ns = g.T.Tree.meaning c.args.tree.now in
    let has = g.T.Tree.has c.args.tree.now in
    let place = g.T.Tree.place c.args.tree.now in
    let front = left c.args.self.now ns has place in
    let rest = left c.piece.self ns has place in
    elim c.piece-test.branch as (λ _. length c.piece.out.items ≡ min most_piece (length front)) [
      | else-piece-test w ↦ full_piece front c.piece.out.items rest c.piece.invariant.left (omega (arith, w.piece-test.false, c.len.ensures, c.piece.out.ok.0)) c.piece.invariant.room
      | then-piece-test+then-self-len+then-is_done w ↦ last_piece front c.piece.out.items rest c.piece.invariant.left (none_left ns has place c.piece.self (omega (arith, w.if-self-len.true, w.len-in-piece.ensures, c.piece.self.message.ok.0)) (w.is_done.ensures.done w.if-is_done.true)) c.piece.invariant.room
    ]
