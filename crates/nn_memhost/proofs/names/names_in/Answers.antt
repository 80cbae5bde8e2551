use Rattle.std.proofs.Common.{◌∙◌, ◌++◌, List, sym, ap}
use Rattle.std.proofs.lemmas.List.{append-nil}
use Rattle.nn_base.specs.declared.file_name.FileName.{FileName}
use Rattle.nn_memhost.specs.Kept.{placed_of}
use Rattle.nn_memhost.proofs.NamesLemmas.{listed}
use Rattle.nn_memhost.proofs.names.names_in.Goals as goal
use Rattle.std.proofs.Common.{map}

pub returns : goal.returns
returns c =
    listed (map placed_of c.args.files.now) c.args.sub c.in_ok-ordered.ordered.entries c.names.names.items c.in_ok-ordered.ensures.spelled c.in_ok-ordered.ensures.all c.in_ok-ordered.ensures.ordered
    (sym (append-nil c.names.names.items) ∙ ap (λ (l : List FileName). c.names.names.items ++ l) (sym c.in-None.ensures.steps.0) ∙ c.names.invariant ∙ c.into_iter-name-iterator.ensures.into_iter_gives ∙ c.values-name-items.ensures.rest)
