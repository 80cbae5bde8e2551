use Rattle.std.proofs.Common.{◌+◌, ◌∷◌, sym, ap, ◌∙◌, take}
use Rattle.std.specs.List.{slice_split}
use Rattle.std.proofs.lemmas.List.{take_rest}
use Rattle.nn_base.proofs.MarkLemmas.{is_mark}
use Rattle.nn_script.proofs.CutLemmas.{cut_at, cut_nowhere}
use Rattle.nn_script.proofs.words.cut.Goals as goal

pub returns-in-Some-clause-pieces : goal.returns-in-Some-clause-pieces
returns-in-Some-clause-pieces c =
    cut_at c.args.mark c.args.text.now c.in-Some.end (sym c.in-Some.ensures)
    ∙ ap (λ rest. take c.in-Some.end c.args.text.now ∷ slice_split (is_mark c.args.mark) rest) (sym (take_rest c.args.text.now (c.in-Some.end + 1)))

pub returns-in-None-clause-pieces : goal.returns-in-None-clause-pieces
returns-in-None-clause-pieces c = cut_nowhere c.args.mark c.args.text.now (sym c.in-None.ensures)
