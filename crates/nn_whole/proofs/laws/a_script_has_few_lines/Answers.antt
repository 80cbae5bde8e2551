use Rattle.nn_whole.proofs.CountedLemmas.{few_lines}
use Rattle.nn_whole.proofs.laws.a_script_has_few_lines.Goals as goal

pub returns : goal.returns
returns c = few_lines
