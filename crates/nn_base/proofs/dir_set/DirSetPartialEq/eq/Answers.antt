use Rattle.nn_base.proofs.DirSetLemmas.{compared}
use Rattle.nn_base.proofs.dir_set.DirSetPartialEq.eq.Goals as goal

pub returns : goal.returns
returns c = compared c.t1-1.inside.dirs c.t2-1.inside.dirs c.args.self.now c.args.other.now c.eq.result c.t1-1.view_is c.t2-1.view_is c.t1-1.invariant c.t2-1.invariant c.eq.ensures
