use Rattle.nn_steps.proofs.BroughtLemmas.{topping_up_keeps}
use Rattle.nn_steps.proofs.laws.a_directory_in_topping_up_stays_behind_or_ends.Goals as goal

pub returns : goal.returns
returns c = topping_up_keeps
