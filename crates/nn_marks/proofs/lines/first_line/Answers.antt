use Rattle.std.proofs.Common.{◌+◌, ◌∷◌, sym, ◌∙◌, length, arith}
use Rattle.std.specs.Str.Lines.{lines}
use Rattle.std.proofs.lemmas.List.{take_rest, take_all, drop_all}
use Rattle.nn_marks.proofs.LinesLemmas.{lines_at_newline, lines_without_newline}
use Rattle.nn_marks.proofs.lines.first_line.Goals as goal

pub returns-in-Some-clause-lines : goal.returns-in-Some-clause-lines
returns-in-Some-clause-lines c =
    lines_at_newline c.args.text.now c.in-Some.end (sym c.in-Some.ensures)
    ∙ (λ i. sym c.without_carriage_return.ensures i ∷ lines (sym (take_rest c.args.text.now (c.in-Some.end + 1)) i))

pub returns-in-None-clause-lines : goal.returns-in-None-clause-lines
returns-in-None-clause-lines c =
    let front = c.split_at.ensures.front ∙ take_all (length c.args.text.now) c.args.text.now (omega arith) in
    let back = c.split_at.ensures.back ∙ drop_all (length c.args.text.now) c.args.text.now (omega arith) in
    lines_without_newline c.args.text.now c.requires (sym c.in-None.ensures) ∙ (λ i. sym front i ∷ lines (sym back i))
