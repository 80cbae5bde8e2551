use Rattle.std.proofs.Common.{vec_len}
use Rattle.nn_remake.proofs.RemovingLemmas.{Removing}
use Rattle.nn_remake.proofs.removing.remove_from_end.Given as goal

abbrev pub invariant-names : goal.invariant-names
invariant-names g l = Removing g.H.Host.told l.fn.names.items l.names.items l.fn.i.0 (g.H.Host.state l.fn.host) (g.H.Host.state l.host)

abbrev pub decreases-names : goal.decreases-names
decreases-names g l = vec_len l.names
