use Rattle.nn_run.proofs.LineLemmas.{commands_append}
use Rattle.nn_run.proofs.laws.commands_append.Goals as goal

pub returns : goal.returns
returns c = commands_append
