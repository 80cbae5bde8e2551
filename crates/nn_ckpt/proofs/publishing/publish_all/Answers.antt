use Rattle.std.proofs.Common.{Err, refl, arith}
use Rattle.nn_ckpt.specs.declared.fault.RunFault.TheVariants.{Memory}
use Rattle.nn_ckpt.proofs.DroppedLemmas.{went_dropped}
use Rattle.nn_ckpt.proofs.PublishesLemmas.{publishes_err, publishes_ok}
use Rattle.nn_ckpt.proofs.publishing.publish_all.Goals as goal

pub drop_failed-requires-clause-below : goal.drop_failed-requires-clause-below
drop_failed-requires-clause-below g c = λ j there. omega (arith, c.requires.below j there, c.publish_each-done.ensures.each.count)

pub returns-in_err-drop_failed-clause-publishes : goal.returns-in_err-drop_failed-clause-publishes
returns-in_err-drop_failed-clause-publishes g c = publishes_err c.args.version.now c.args.id (g.T.Tree.meaning c.args.tree.now) (λ tells. g.met.H.Host.lawful tells c.args.host.now) c.requires.going c.publish_each-done.ensures.each c.in_err-drop_failed.ensures.drops c.from_residual.result c.from_residual.ensures.0

pub returns-in_err-drop_failed-clause-went : goal.returns-in_err-drop_failed-clause-went
returns-in_err-drop_failed-clause-went g c = went_dropped c.publish_each-done.ensures.each c.in_err-drop_failed.ensures.drops

pub returns-in-Ok-clause-publishes : goal.returns-in-Ok-clause-publishes
returns-in-Ok-clause-publishes g c = publishes_ok c.args.version.now c.args.id (g.T.Tree.meaning c.args.tree.now) (λ tells. g.met.H.Host.lawful tells c.args.host.now) c.requires.going c.publish_each-done.ensures.each c.in_ok-drop_failed.ensures.drops c.in-Ok.ensures.done

pub returns-in-Ok-clause-went : goal.returns-in-Ok-clause-went
returns-in-Ok-clause-went g c = went_dropped c.publish_each-done.ensures.each c.in_ok-drop_failed.ensures.drops

pub returns-in-Err-clause-publishes : goal.returns-in-Err-clause-publishes
returns-in-Err-clause-publishes g c = publishes_err c.args.version.now c.args.id (g.T.Tree.meaning c.args.tree.now) (λ tells. g.met.H.Host.lawful tells c.args.host.now) c.requires.going c.publish_each-done.ensures.each c.in_ok-drop_failed.ensures.drops (Err Memory) refl

pub returns-in-Err-clause-went : goal.returns-in-Err-clause-went
returns-in-Err-clause-went g c = went_dropped c.publish_each-done.ensures.each c.in_ok-drop_failed.ensures.drops
