use Rattle.nn_ckpt.proofs.PublishedLemmas.{published_stands}
use Rattle.nn_ckpt.proofs.laws.a_directory_published_into_rests.Goals as goal

pub returns : goal.returns
returns c = published_stands
