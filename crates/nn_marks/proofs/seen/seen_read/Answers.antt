-- The digits are what is left without the newline.
use Rattle.std.proofs.Common.{◌∙◌, sym}
use Rattle.nn_marks.proofs.SeenLemmas.{if_found, seen_found, seen_only}
use Rattle.nn_marks.proofs.seen.seen_read.Goals as goal

pub returns-clause-found : goal.returns-clause-found
returns-clause-found c = if_found _ _ (λ id read. seen_found c.args.bytes.now _ id c.without_newline.ensures (sym c.number.ensures.value ∙ read))

pub returns-clause-only : goal.returns-clause-only
returns-clause-only c = λ id seen. c.number.ensures.value ∙ seen_only c.args.bytes.now _ id c.without_newline.ensures seen
