use Rattle.std.proofs.Common.{Err, refl, arith}
use Rattle.nn_ckpt.specs.declared.fault.RunFault.TheVariants.{Memory}
use Rattle.nn_ckpt.proofs.DroppedLemmas.{went_dropped}
use Rattle.nn_ckpt.proofs.PurgesLemmas.{purges_err, purges_ok, purges_exact}
use Rattle.nn_ckpt.proofs.purging.purge.Goals as goal

pub drop_failed-requires-clause-below : goal.drop_failed-requires-clause-below
drop_failed-requires-clause-below g c = λ j there. omega (arith, c.requires.below j there, c.purge_each-done.ensures.each.count)

pub returns-in_err-drop_failed-clause-purges : goal.returns-in_err-drop_failed-clause-purges
returns-in_err-drop_failed-clause-purges g c = purges_err (λ tells. g.met.H.Host.lawful tells c.args.host.now) c.purge_each-done.ensures.each c.in_err-drop_failed.ensures.drops c.from_residual.result c.from_residual.ensures.0

pub returns-in_err-drop_failed-clause-went : goal.returns-in_err-drop_failed-clause-went
returns-in_err-drop_failed-clause-went g c = went_dropped c.purge_each-done.ensures.each c.in_err-drop_failed.ensures.drops

pub returns-in-Ok-clause-purges : goal.returns-in-Ok-clause-purges
returns-in-Ok-clause-purges g c = purges_ok (λ tells. g.met.H.Host.lawful tells c.args.host.now) c.purge_each-done.ensures.each c.in_ok-drop_failed.ensures.drops c.in-Ok.ensures.done

pub returns-in-Ok-clause-exact : goal.returns-in-Ok-clause-exact
returns-in-Ok-clause-exact g c = λ tells same. purges_exact (λ tells. g.met.H.Host.lawful tells c.args.host.now) c.purge_each-done.ensures.each c.in_ok-drop_failed.ensures.drops same c.in-Ok.ensures.done tells

pub returns-in-Ok-clause-went : goal.returns-in-Ok-clause-went
returns-in-Ok-clause-went g c = went_dropped c.purge_each-done.ensures.each c.in_ok-drop_failed.ensures.drops

pub returns-in-Err-clause-purges : goal.returns-in-Err-clause-purges
returns-in-Err-clause-purges g c = purges_err (λ tells. g.met.H.Host.lawful tells c.args.host.now) c.purge_each-done.ensures.each c.in_ok-drop_failed.ensures.drops (Err Memory) refl

pub returns-in-Err-clause-went : goal.returns-in-Err-clause-went
returns-in-Err-clause-went g c = went_dropped c.purge_each-done.ensures.each c.in_ok-drop_failed.ensures.drops
