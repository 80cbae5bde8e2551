use Rattle.nn_ckpt.specs.Retention.{WasPurged}
use Rattle.nn_ckpt.specs.Checkpointed.{IsPurgingOf}
use Rattle.nn_ckpt.proofs.EachLemmas.{Doing}
use Rattle.nn_ckpt.proofs.purging.purge_each.Given as goal

abbrev pub invariant-loop-i : goal.invariant-loop-i
invariant-loop-i g l = Doing g.H.Host.told IsPurgingOf WasPurged l.journal.live l.failed l.i (g.H.Host.state l.fn.host) (g.H.Host.state l.host)
