use Rattle.nn_ckpt.specs.Checkpointed.{IsPublishingOf, HasPublished}
use Rattle.nn_ckpt.proofs.EachLemmas.{Doing}
use Rattle.nn_ckpt.proofs.publishing.publish_each.Given as goal

abbrev pub invariant-loop-i : goal.invariant-loop-i
invariant-loop-i g l = Doing g.H.Host.told (IsPublishingOf l.version l.id (g.T.Tree.meaning l.tree)) (HasPublished l.version l.id (g.T.Tree.meaning l.tree)) l.journal.live l.failed l.i (g.H.Host.state l.fn.host) (g.H.Host.state l.host)
