use Rattle.nn_remake.proofs.ClearingCallLemmas.{unversioned_then}
use Rattle.nn_remake.proofs.clearing.give_up_current.Goals as goal

pub returns-clause-any_moment : goal.returns-clause-any_moment
returns-clause-any_moment g c = unversioned_then c.in_ok-unformat.ensures.any_moment c.clear_unformatted.ensures.any_moment
