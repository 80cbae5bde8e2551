use Rattle.std.proofs.Common.{sym, ◌∙◌}
use Rattle.nn_script.specs.Arguments.{Gives, path_of}
use Rattle.nn_script.proofs.EscapeLemmas.{as_it_is}
use Rattle.nn_script.proofs.argument.path.Goals as goal

pub returns-then-not-contains : goal.returns-then-not-contains
returns-then-not-contains c =
    as_it_is (λ read. Gives (λ path. path) c.path_of.result read) c.args.word.now path_of (sym c.contains.ensures.value ∙ c.if-not-contains.true) c.path_of.ensures
