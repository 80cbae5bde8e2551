use Rattle.nn_whole.proofs.LeavingLemmas.{are_the_lines}
use Rattle.nn_whole.proofs.laws.unreached_lines_are_the_lines.Goals as goal

pub returns : goal.returns
returns c = are_the_lines
