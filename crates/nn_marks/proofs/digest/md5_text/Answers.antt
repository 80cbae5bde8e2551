use Rattle.std.proofs.Common.{◌++◌, take, ap, ◌∙◌}
use Rattle.std.specs.Prelude.{codes}
use Rattle.nn_base.specs.FileText.{id_text}
use Rattle.nn_marks.proofs.DigestLemmas.{four_parts}
use Rattle.nn_marks.proofs.digest.md5_text.Goals as goal

pub returns-clause-text : goal.returns-clause-text
returns-clause-text c =
    four_parts _ (codes " *fsimage_") (id_text c.args.id) _ _ _ _ (c.put-len.ensures.written ∙ c.hex_digits.ensures) c.put-len-2.ensures.written
    (c.put-len-3.ensures.written ∙ ap (λ digits. take c.put-len-2.result c.put-len-2.new.out ++ digits) (c.id_digits.ensures ∙ ap id_text c.id.view_is)) c.put.ensures.written
