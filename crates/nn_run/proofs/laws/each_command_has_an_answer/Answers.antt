use Rattle.nn_run.proofs.LineLemmas.{commands_have_text}
use Rattle.nn_run.proofs.laws.each_command_has_an_answer.Goals as goal

pub returns : goal.returns
returns c = commands_have_text
