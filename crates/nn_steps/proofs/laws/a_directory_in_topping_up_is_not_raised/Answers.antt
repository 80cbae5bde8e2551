use Rattle.nn_steps.proofs.NotRaisedLemmas.{topping_up_is_not_raised}
use Rattle.nn_steps.proofs.laws.a_directory_in_topping_up_is_not_raised.Goals as goal

pub returns : goal.returns
returns c = topping_up_is_not_raised
