use Rattle.nn_base.specs.DirSets.{has}
use Rattle.nn_start.proofs.TidyLemmas.{Tidying}
use Rattle.nn_start.proofs.tidying.tidy_all.Given as goal

abbrev pub invariant-loop-i : goal.invariant-loop-i
invariant-loop-i g l = Tidying g.H.Host.told (has l.aim.chosen) l.aim.version l.aim.last (g.T.Tree.meaning l.aim.tree) l.i (g.H.Host.state l.fn.host) (g.H.Host.state l.host)
