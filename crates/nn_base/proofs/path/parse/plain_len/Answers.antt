use Rattle.std.proofs.Common.{ap, ◌∙◌, length}
use Rattle.std.specs.Prelude.{unwrap_or}
use Rattle.nn_base.specs.PathHeld.{is_special}
use Rattle.nn_base.proofs.PathCountLemmas.{position_or_end}
use Rattle.nn_base.proofs.path.parse.plain_len.Goals as goal

pub returns : goal.returns
returns c =
    c.unwrap_or.ensures ∙ ap (λ o. unwrap_or o (length c.args.text.now)) c.first_special.ensures ∙ position_or_end is_special c.args.text.now
