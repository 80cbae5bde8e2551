use Rattle.nn_choose.proofs.LoadingLemmas.{Loading}
use Rattle.nn_choose.proofs.loading.load_best.Given as goal

abbrev pub invariant-loop-i : goal.invariant-loop-i
invariant-loop-i g l = Loading g.T.Tree.meaning g.H.Host.told l.lead l.i (g.H.Host.state l.fn.host) (g.H.Host.state l.host) l.best
