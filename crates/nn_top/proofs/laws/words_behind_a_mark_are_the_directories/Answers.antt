use Rattle.nn_top.proofs.LawLemmas.{behind_mark}
use Rattle.nn_top.proofs.laws.words_behind_a_mark_are_the_directories.Goals as goal

pub returns : goal.returns
returns c = behind_mark
