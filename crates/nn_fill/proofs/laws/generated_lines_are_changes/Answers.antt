use Rattle.nn_fill.proofs.ScriptLemmas.{generated_are_changes}
use Rattle.nn_fill.proofs.laws.generated_lines_are_changes.Goals as goal

pub returns : goal.returns
returns c = generated_are_changes
