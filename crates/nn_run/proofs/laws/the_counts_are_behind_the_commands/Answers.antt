use Rattle.nn_run.proofs.BaseLemmas.{base_is_behind}
use Rattle.nn_run.proofs.laws.the_counts_are_behind_the_commands.Goals as goal

pub returns : goal.returns
returns c = base_is_behind
