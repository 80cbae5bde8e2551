use Rattle.nn_state.proofs.CallLemmas.{then_still, then_was, then_fits, given_work, given_was, given_state, given_none}
use Rattle.nn_state.proofs.typed.CompleteFinalize.recover.Goals as goal

pub returns-in-Ok-clause-ok : goal.returns-in-Ok-clause-ok
returns-in-Ok-clause-ok g c = then_was c.by_version.ensures.any_moment c.by_version.result (given_was (λ tells. g.met.H.Host.lawful tells c.args.host.now) c.requires.fits c.in-Ok.ensures) c.by_version.ensures.kept

pub returns-in-Ok-clause-fits : goal.returns-in-Ok-clause-fits
returns-in-Ok-clause-fits g c = λ tells versioned.
    then_fits c.by_version.result c.by_version.ensures.any_moment tells
    (c.by_version.ensures.fits tells (given_state (λ tells. g.met.H.Host.lawful tells c.args.host.now) c.requires.fits c.in-Ok.ensures tells) (given_none (λ tells. g.met.H.Host.lawful tells c.args.host.now) c.requires.fits c.in-Ok.ensures tells))

pub returns-in-Ok-clause-any_moment : goal.returns-in-Ok-clause-any_moment
returns-in-Ok-clause-any_moment g c = then_still (given_work (λ tells. g.met.H.Host.lawful tells c.args.host.now) c.requires.fits c.in-Ok.ensures) c.by_version.ensures.any_moment

pub returns-in-Err-clause-any_moment : goal.returns-in-Err-clause-any_moment
returns-in-Err-clause-any_moment g c = given_work (λ tells. g.met.H.Host.lawful tells c.args.host.now) c.requires.fits c.in-Err.ensures
