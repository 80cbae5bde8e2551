use Rattle.nn_remake.proofs.ClearingCallLemmas.{unversioned_work, unversioned_was}
use Rattle.nn_remake.proofs.clearing.unformat.Goals as goal

pub returns-clause-any_moment : goal.returns-clause-any_moment
returns-clause-any_moment g c = unversioned_work c.requires.idle c.requires.previous c.remove_file.ensures

pub returns-clause-ok : goal.returns-clause-ok
returns-clause-ok g c = unversioned_was c.requires.idle c.requires.previous c.remove_file.result c.remove_file.ensures
