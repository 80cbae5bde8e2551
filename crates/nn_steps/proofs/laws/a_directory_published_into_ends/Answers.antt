use Rattle.nn_steps.proofs.PublishedLemmas.{publishing_ends}
use Rattle.nn_steps.proofs.laws.a_directory_published_into_ends.Goals as goal

pub returns : goal.returns
returns c = publishing_ends
