use Rattle.nn_kept.proofs.KeptFirstLemmas.{sound_is_kept}
use Rattle.nn_kept.proofs.laws.sound_directories_are_kept.Goals as goal

pub returns : goal.returns
returns c = sound_is_kept
