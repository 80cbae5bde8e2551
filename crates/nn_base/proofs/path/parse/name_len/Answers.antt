use Rattle.std.proofs.Common.{◌≡◌, ◌<◌, length, take, get_or, sym, ap, ◌∙◌, arith}
use Rattle.std.proofs.lemmas.List.{length-take-le}
use Rattle.nn_base.specs.PathText.{part_fault}
use Rattle.nn_base.proofs.PathCountLemmas.{part, no_bad_part, part_before, barred_part, long_part, fair_part}
use Rattle.nn_base.proofs.path.parse.name_len.Goals.{else-len-text-via-then-len-text+else-text-len-ne47, else-len-text-via-else-len-text}
use Rattle.nn_base.proofs.path.parse.name_len.Goals as goal

pub returns-then-text-len-ne47-clause-err : goal.returns-then-text-len-ne47-clause-err
returns-then-text-len-ne47-clause-err c = barred_part c.args.text.now c.plain_len-len.result c.plain_len-len.ensures c.if-len-text.true c.if-text-len-ne47.true

pub returns-then-len-gt-MOST_NAME-clause-err : goal.returns-then-len-gt-MOST_NAME-clause-err
returns-then-len-gt-MOST_NAME-clause-err c =
    let p = part c.args.text.now c.plain_len-len.result c.plain_len-len.ensures (elim c.else-len-text.branch [
      | else-len-text-via-then-len-text+else-text-len-ne47 w ↦ λ _. w.if-text-len-ne47.false
      | else-len-text-via-else-len-text w ↦ λ within. absurd (omega (arith, within, w.if-len-text.false))
    ]) in
    let fair = no_bad_part c.args.text.now c.plain_len-len.result p c.if-len-eq0.false (sym c.is_dots.ensures ∙ c.if-is_dots.false) in
    ap part_fault (part_before c.args.text.now c.plain_len-len.result p) ∙ long_part (take c.plain_len-len.result c.args.text.now) fair (omega (arith, length-take-le c.plain_len-len.result c.args.text.now p.within, c.if-len-gt-MOST_NAME.true))

pub returns-clause-ok : goal.returns-clause-ok
returns-clause-ok c =
    let p = part c.args.text.now c.plain_len-len.result c.plain_len-len.ensures (elim c.else-len-text.branch [
      | else-len-text-via-then-len-text+else-text-len-ne47 w ↦ λ _. w.if-text-len-ne47.false
      | else-len-text-via-else-len-text w ↦ λ within. absurd (omega (arith, within, w.if-len-text.false))
    ]) in
    let fair = no_bad_part c.args.text.now c.plain_len-len.result p c.if-len-eq0.false (sym c.is_dots.ensures ∙ c.if-is_dots.false) in
    (p.ends, fair_part (take c.plain_len-len.result c.args.text.now) fair (omega (arith, length-take-le c.plain_len-len.result c.args.text.now p.within, c.if-len-gt-MOST_NAME.false)))
