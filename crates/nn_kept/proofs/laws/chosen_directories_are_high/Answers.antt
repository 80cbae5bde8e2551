use Rattle.nn_kept.proofs.KeptOpenLemmas.{chosen_are_high}
use Rattle.nn_kept.proofs.laws.chosen_directories_are_high.Goals as goal

pub returns : goal.returns
returns c = chosen_are_high
