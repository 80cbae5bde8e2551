use Rattle.nn_state.proofs.CallLemmas.{rolled_work, rolled_was, rolled_fits}
use Rattle.nn_state.proofs.typed.CompleteRollback.recover.Goals as goal

pub returns-in-Ok-clause-ok : goal.returns-in-Ok-clause-ok
returns-in-Ok-clause-ok g c = rolled_was (λ tells. g.met.H.Host.lawful tells c.args.host.now) c.requires.fits c.in-Ok.ensures

pub returns-in-Ok-clause-fits : goal.returns-in-Ok-clause-fits
returns-in-Ok-clause-fits g c = λ tells versioned. rolled_fits (λ tells. g.met.H.Host.lawful tells c.args.host.now) c.requires.fits c.in-Ok.ensures tells

pub returns-in-Ok-clause-any_moment : goal.returns-in-Ok-clause-any_moment
returns-in-Ok-clause-any_moment g c = rolled_work (λ tells. g.met.H.Host.lawful tells c.args.host.now) c.requires.fits c.in-Ok.ensures

pub returns-in-Err-clause-any_moment : goal.returns-in-Err-clause-any_moment
returns-in-Err-clause-any_moment g c = rolled_work (λ tells. g.met.H.Host.lawful tells c.args.host.now) c.requires.fits c.in-Err.ensures
