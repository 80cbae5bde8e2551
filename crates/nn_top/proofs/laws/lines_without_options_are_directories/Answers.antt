use Rattle.nn_top.proofs.SpelledLemmas.{states_read, states_spelled, dry_read, dry_spelled}
use Rattle.nn_top.proofs.laws.lines_without_options_are_directories.Goals as goal

pub returns-clause-state : goal.returns-clause-state
returns-clause-state c = states_read

pub returns-clause-only : goal.returns-clause-only
returns-clause-only c = states_spelled

pub returns-clause-dry : goal.returns-clause-dry
returns-clause-dry c = dry_read

pub returns-clause-only_dry : goal.returns-clause-only_dry
returns-clause-only_dry c = dry_spelled
