use Rattle.nn_choose.proofs.LoadingLemmas.{Seeing}
use Rattle.nn_choose.proofs.loading.greatest_seen.Given as goal

abbrev pub invariant-loop-i : goal.invariant-loop-i
invariant-loop-i g l = Seeing g.H.Host.told l.i (g.H.Host.state l.fn.host) (g.H.Host.state l.host) l.greatest
