use Rattle.nn_script.proofs.EscapeLemmas.{first_part}
use Rattle.nn_script.proofs.escape.unescaped.Goals as goal

pub parts-init : goal.parts-init
parts-init c = rw c.in_ok-text.ensures.items (first_part _ _ _ c.cut.ensures.pieces)
