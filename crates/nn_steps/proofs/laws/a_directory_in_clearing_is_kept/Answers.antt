use Rattle.nn_steps.proofs.ClearedLemmas.{clearing_keeps}
use Rattle.nn_steps.proofs.laws.a_directory_in_clearing_is_kept.Goals as goal

pub returns : goal.returns
returns c = clearing_keeps
