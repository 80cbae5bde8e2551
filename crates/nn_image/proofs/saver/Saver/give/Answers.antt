use Rattle.std.proofs.Common.{◌-◌, ◌≤◌, ◌++◌, take, drop, sym, ap, ◌∙◌, append_assoc, arith}
use Rattle.std.proofs.lemmas.List.Folds.{drop_split}
use Rattle.nn_image.proofs.saver.Saver.give.Goals as goal

pub returns-clause-text : goal.returns-clause-text
returns-clause-text c =
    let message = c.args.self.now.message.items in
    let at = c.args.self.now.given in
    let end = c.min-end.result in
    let up : at ≤ end = grind arith in
    let part = c.in_ok-extend_from_slice.ensures.items ∙ ap (λ text. c.args.out.now.items ++ take (end - at) (drop at text)) c.deref.ensures.value in
    ap (λ t. c.args.out.now.items ++ t) (drop_split message at end up) ∙ sym (append_assoc c.args.out.now.items (take (end - at) (drop at message)) (drop end message))
    ∙ ap (λ t. t ++ drop end message) (sym part)
