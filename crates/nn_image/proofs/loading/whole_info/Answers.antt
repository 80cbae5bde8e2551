use Rattle.std.proofs.Common.{refl, sym}
use Rattle.nn_base.proofs.PlainLemmas.{some_is}
use Rattle.nn_image.proofs.LoadLemmas.{info_there}
use Rattle.nn_image.proofs.loading.whole_info.Goals as goal

pub returns-in_err-info-clause-none : goal.returns-in_err-info-clause-none
returns-in_err-info-clause-none c = rw c.from_residual.ensures (λ content ranged same.
    let never = c.in_err-info.ensures.again content.info ranged.info (sym (info_there content _ same)) in
    absurd cc)

pub returns-then-check_messages-clause-some : goal.returns-then-check_messages-clause-some
returns-then-check_messages-clause-some c =
    let found = c.if-check_messages.ensures.yes refl in
    let same = c.in_ok-info.ensures.again found.0.info found.1.info (sym (info_there found.0 _ (sym found.2))) in
    (found.0, found.1, found.2, some_is _ _ same)
