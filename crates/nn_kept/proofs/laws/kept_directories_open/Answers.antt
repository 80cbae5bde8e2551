use Rattle.nn_kept.proofs.KeptOpenLemmas.{kept_open}
use Rattle.nn_kept.proofs.laws.kept_directories_open.Goals as goal

pub returns : goal.returns
returns c = kept_open
