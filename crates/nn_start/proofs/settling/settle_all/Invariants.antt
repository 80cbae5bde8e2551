use Rattle.nn_start.proofs.SettleLemmas.{Settling}
use Rattle.nn_start.proofs.settling.settle_all.Given as goal

abbrev pub invariant-loop-i : goal.invariant-loop-i
invariant-loop-i g l = Settling g.H.Host.told l.i (g.H.Host.state l.fn.host) (g.H.Host.state l.host)
