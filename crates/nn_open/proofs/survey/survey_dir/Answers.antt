use Rattle.std.proofs.Common.{◌∙◌}
use Rattle.nn_open.proofs.CallLemmas.{settled, seen}
use Rattle.nn_open.proofs.survey.survey_dir.Goals as goal

pub returns-in_err-settle-clause-any_moment : goal.returns-in_err-settle-clause-any_moment
returns-in_err-settle-clause-any_moment g c = settled c.in_err-settle.ensures

pub returns-in_err-seven-clause-any_moment : goal.returns-in_err-seven-clause-any_moment
returns-in_err-seven-clause-any_moment g c = seen (settled c.in_ok-settle.ensures) c.in_err-seven.ensures.any_moment

pub returns-clause-any_moment : goal.returns-clause-any_moment
returns-clause-any_moment g c = seen (settled c.in_ok-settle.ensures) c.in_ok-seven.ensures.any_moment

pub returns-clause-settled : goal.returns-clause-settled
returns-clause-settled g c = λ tells. c.in_ok-seven.ensures.any_moment.ends tells ∙ (c.in_ok-settle.ensures.effect tells).ok.disk
