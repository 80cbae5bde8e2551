use Rattle.nn_base.proofs.DirSetLemmas.{some_member}
use Rattle.nn_base.proofs.dir_set.DirSet.is_empty.Goals as goal

pub returns-clause-no : goal.returns-clause-no
returns-clause-no c = some_member c.self.inside.dirs c.args.self c.has_true.result c.self.view_is c.self.invariant c.has_true.ensures
