use Rattle.nn_choose.proofs.VersionsLemmas.{Versioned}
use Rattle.nn_choose.proofs.versions.versions.Given as goal

abbrev pub invariant-loop-i : goal.invariant-loop-i
invariant-loop-i g l = Versioned g.H.Host.told l.i (g.H.Host.state l.fn.host) (g.H.Host.state l.host) l.served.items
