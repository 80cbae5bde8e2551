use Rattle.nn_whole.proofs.OpenedLemmas.{shared_at_first}
use Rattle.nn_whole.proofs.laws.sound_directories_share.Goals as goal

pub returns : goal.returns
returns c = shared_at_first
