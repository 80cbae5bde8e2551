-- The first 19 bytes are the id's.
use Rattle.std.proofs.Common.{◌∙◌, ap, length, arith, length-append}
use Rattle.std.proofs.lemmas.Option.{none-some, same_Some}
use Rattle.nn_base.specs.FileText.{id_text}
use Rattle.nn_base.proofs.FileTextLemmas.{length-id_text, first_19, behind_19}
use Rattle.nn_base.proofs.file_name.parse.leading_id.Goals as goal

pub returns-then-text-lt-ID_DIGITS-clause-only : goal.returns-then-text-lt-ID_DIGITS-clause-only
returns-then-text-lt-ID_DIGITS-clause-only c = λ id back small e. absurd (omega (arith, ap length e, length-append (id_text id) back, length-id_text id))

pub returns-in_err-id-clause-only : goal.returns-in_err-id-clause-only
returns-in_err-id-clause-only c = λ id back small e.
    absurd (none-some id (c.in_err-id.ensures.only id small (c.split_at.ensures.front ∙ first_19 _ id back e)))

pub returns-clause-only : goal.returns-clause-only
returns-clause-only c = λ id back small e. (
  c.id.view_is ∙ same_Some _ _ (c.in_ok-id.ensures.only id small (c.split_at.ensures.front ∙ first_19 _ id back e)),
  c.split_at.ensures.back ∙ behind_19 _ id back e,
)
