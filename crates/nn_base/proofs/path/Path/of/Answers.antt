use Rattle.std.proofs.Common.{◌≡◌, arith, subst, sym, ap, ◌∙◌, ◌++◌, length}
use Rattle.nn_base.specs.Paths.{Bytes, IsPath, joined}
use Rattle.nn_base.specs.PathText.{parts_of}
use Rattle.nn_base.specs.PathHeld.{HoldsPath}
use Rattle.nn_base.proofs.PathTextLemmas.{parts_of-joined}
use Rattle.nn_base.proofs.PathHeldLemmas.{joined_held}
use Rattle.nn_base.proofs.path.Path.of.Goals as goal

pub invariant_of-result : goal.invariant_of-result
invariant_of-result c =
    let path : IsPath c.args.names.now = record { named = c.text_len-size.ensures.named; levels = omega (arith, c.if-names-gt-MOST_LEVELS.false); size = omega (arith, c.text_len-size.ensures.value, c.if-size-gt-MOST_PATH.false) } in
    let items : c.append.new.out.items ≡ joined c.args.names.now = c.append.ensures.text ∙ ap (λ t. t ++ joined c.args.names.now) c.in_ok-text.ensures.items in
    subst (λ (text : Bytes). HoldsPath text (length c.args.names.now)) (sym items) (joined_held c.args.names.now path)

pub returns : goal.returns
returns c =
    let path : IsPath c.args.names.now = record { named = c.text_len-size.ensures.named; levels = omega (arith, c.if-names-gt-MOST_LEVELS.false); size = omega (arith, c.text_len-size.ensures.value, c.if-size-gt-MOST_PATH.false) } in
    let items : c.append.new.out.items ≡ joined c.args.names.now = c.append.ensures.text ∙ ap (λ t. t ++ joined c.args.names.now) c.in_ok-text.ensures.items in
    (path, ap parts_of items ∙ parts_of-joined c.args.names.now path.named)
