use Rattle.std.proofs.Common.{sym, ◌∙◌}
use Rattle.nn_script.specs.Arguments.{Gives, label_of}
use Rattle.nn_script.proofs.EscapeLemmas.{as_it_is}
use Rattle.nn_script.proofs.argument.label.Goals as goal

pub returns-then-not-contains : goal.returns-then-not-contains
returns-then-not-contains c =
    as_it_is (λ read. Gives (λ label. label) c.label_of.result read) c.args.word.now label_of (sym c.contains.ensures.value ∙ c.if-not-contains.true) c.label_of.ensures
