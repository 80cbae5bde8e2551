-- The words are distinct where the first is none of the later ones, and these are distinct.
use Rattle.std.proofs.Common.{not, ◌&&◌, ap, sym, ◌∙◌}
use Rattle.nn_top.specs.Words.{texts, are_distinct}
use Rattle.nn_top.proofs.WordsLemmas.{distinct_first}
use Rattle.nn_top.proofs.words.+are_distinct.Goals as goal

pub returns-then-not-is_among : goal.returns-then-not-is_among
returns-then-not-is_among t c =
    let first = distinct_first c.args.dirs.now c.in-Some.later.now c.in-Some.first.now c.as_str.result.now c.in-Some.ensures.cases.0 c.as_str.ensures.value in
    c.are_distinct.ensures ∙ sym (first ∙ ap (λ b. not b && are_distinct (texts c.in-Some.later.now)) (sym c.is_among.ensures ∙ c.if-not-is_among.true))

pub returns-else-not-is_among : goal.returns-else-not-is_among
returns-else-not-is_among t c =
    let first = distinct_first c.args.dirs.now c.in-Some.later.now c.in-Some.first.now c.as_str.result.now c.in-Some.ensures.cases.0 c.as_str.ensures.value in
    rw c.if-not-is_among.false (sym (first ∙ ap (λ b. not b && are_distinct (texts c.in-Some.later.now)) (sym c.is_among.ensures ∙ c.if-not-is_among.false)))
