use Rattle.nn_steps.proofs.ClearedLemmas.{giving_up_ends}
use Rattle.nn_steps.proofs.laws.a_directory_given_up_ends.Goals as goal

pub returns : goal.returns
returns c = giving_up_ends
