use Rattle.nn_top.proofs.LawLemmas.{read_alike}
use Rattle.nn_top.proofs.laws.options_are_read_joined_or_apart.Goals as goal

pub returns : goal.returns
returns c = read_alike
