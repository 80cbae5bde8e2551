use Rattle.nn_host.proofs.WorkLemmas.{still_once}
use Rattle.nn_small.proofs.FailureLemmas.{failed_once}
use Rattle.nn_remake.proofs.cutting.names_of.Goals as goal

pub returns-in-Ok-clause-any_moment : goal.returns-in-Ok-clause-any_moment
returns-in-Ok-clause-any_moment g c = still_once c.in-Ok.ensures.call

pub returns-in-Err-Failed-clause-any_moment : goal.returns-in-Err-Failed-clause-any_moment
returns-in-Err-Failed-clause-any_moment g c = still_once c.in-Err-Failed.ensures.call

pub returns-clause-any_moment : goal.returns-clause-any_moment
returns-clause-any_moment g c = still_once c.in-Err-Memory.ensures.call

pub returns-in-Ok-clause-still : goal.returns-in-Ok-clause-still
returns-in-Ok-clause-still g c = failed_once c.in-Ok.ensures.call

pub returns-in-Err-Failed-clause-still : goal.returns-in-Err-Failed-clause-still
returns-in-Err-Failed-clause-still g c = failed_once c.in-Err-Failed.ensures.call

pub returns-clause-still : goal.returns-clause-still
returns-clause-still g c = failed_once c.in-Err-Memory.ensures.call
