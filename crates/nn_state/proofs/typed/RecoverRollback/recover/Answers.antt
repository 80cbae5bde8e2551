use Rattle.nn_state.proofs.CallLemmas.{returned_work, returned_was, returned_fits}
use Rattle.nn_state.proofs.typed.RecoverRollback.recover.Goals as goal

pub returns-in-Ok-clause-ok : goal.returns-in-Ok-clause-ok
returns-in-Ok-clause-ok g c = returned_was (λ tells. g.met.H.Host.lawful tells c.args.host.now) c.requires.fits c.in-Ok.ensures.ok

pub returns-in-Ok-clause-fits : goal.returns-in-Ok-clause-fits
returns-in-Ok-clause-fits g c = returned_fits (λ tells. g.met.H.Host.lawful tells c.args.host.now) c.requires.fits c.in-Ok.ensures.ok

pub returns-in-Ok-clause-any_moment : goal.returns-in-Ok-clause-any_moment
returns-in-Ok-clause-any_moment g c = returned_work (λ tells. g.met.H.Host.lawful tells c.args.host.now) c.requires.fits c.in-Ok.ensures.any_moment

pub returns-in-Err-clause-any_moment : goal.returns-in-Err-clause-any_moment
returns-in-Err-clause-any_moment g c = returned_work (λ tells. g.met.H.Host.lawful tells c.args.host.now) c.requires.fits c.in-Err.ensures.any_moment
