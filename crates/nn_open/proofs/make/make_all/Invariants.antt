use Rattle.nn_open.proofs.MakeLemmas.{Made}
use Rattle.nn_open.proofs.make.make_all.Given as goal

abbrev pub invariant-loop-i : goal.invariant-loop-i
invariant-loop-i g l = Made g.H.Host.told l.version l.i (g.H.Host.state l.fn.host) (g.H.Host.state l.host)
