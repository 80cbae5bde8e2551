use Rattle.nn_top.proofs.LineLemmas.{directories, directories_are, read_dirs}
use Rattle.nn_top.proofs.laws.directories_are_few_named_and_distinct.Goals as goal

pub returns-clause-read : goal.returns-clause-read
returns-clause-read c = read_dirs

pub returns-clause-test : goal.returns-clause-test
returns-clause-test c = λ dirs. (directories dirs, directories_are dirs)
