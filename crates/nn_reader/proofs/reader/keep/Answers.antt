use Rattle.std.proofs.Common.{◌≡◌, ◌-◌, min, ◌∙◌, ap, ◌++◌, take, length, arith}
use Rattle.nn_reader.specs.Reading.{most_kept}
use Rattle.nn_reader.proofs.BytesLemmas.{front_more}
use Rattle.nn_reader.proofs.reader.keep.Goals as goal

pub returns-clause-line : goal.returns-clause-line
returns-clause-line c =
    let line = c.args.line.now.items in
    let part = c.args.part.now in
    let most : c.min-most.result ≡ min (most_kept - length line) (length part) = omega arith in
    c.in-Ok.ensures.items ∙ ap (λ k. line ++ take k part) most ∙ front_more most_kept line part (omega arith)
