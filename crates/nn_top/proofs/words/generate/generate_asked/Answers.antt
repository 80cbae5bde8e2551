use Rattle.std.proofs.Common.{◌≡◌, [], ◌∷◌, sym, ap, ◌∙◌}
use Rattle.std.specs.String.{string_bytes}
use Rattle.std.proofs.lemmas.Bool.{true≢false}
use Rattle.nn_top.specs.Words.{texts}
use Rattle.nn_top.specs.Parts.{parts_of}
use Rattle.nn_top.specs.Commands.{generate_in}
use Rattle.nn_top.proofs.GenerateLemmas.{number_followed}
use Rattle.nn_top.proofs.words.generate.generate_asked.Goals as goal

pub returns-then-not-is_end : goal.returns-then-not-is_end
returns-then-not-is_end c =
    let number = string_bytes c.in_ok-number.number.now in
    let later = texts c.in_ok-number.later.now in
    let split : texts c.args.words.now ≡ number ∷ later = ap texts c.in_ok-number.ensures.cases.0 in
    let followed = number_followed number later (λ ends. true≢false (sym (c.is_end.ensures.1 ends) ∙ c.if-not-is_end.true)) in
    sym (ap (λ words. generate_in (parts_of [] words)) split ∙ followed)
