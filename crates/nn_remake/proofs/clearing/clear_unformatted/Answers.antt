use Rattle.nn_remake.proofs.ClearingCallLemmas.{emptying, emptied, was_bared}
use Rattle.nn_remake.proofs.clearing.clear_unformatted.Goals as goal

pub returns-in_err-remove_sub-clause-any_moment : goal.returns-in_err-remove_sub-clause-any_moment
returns-in_err-remove_sub-clause-any_moment g c = emptying c.requires.fresh c.in_err-remove_sub.ensures

pub returns-clause-any_moment : goal.returns-clause-any_moment
returns-clause-any_moment g c = emptied c.requires.fresh c.in_ok-remove_sub.ensures c.remove_sub-2.ensures

pub returns-clause-ok : goal.returns-clause-ok
returns-clause-ok g c = was_bared c.requires.fresh c.in_ok-remove_sub.ensures c.remove_sub-2.result c.remove_sub-2.ensures
