use Rattle.nn_kept.proofs.RollbackLemmas.{sound_rolls_back}
use Rattle.nn_kept.proofs.laws.sound_directories_roll_back.Goals as goal

pub returns : goal.returns
returns c = sound_rolls_back
