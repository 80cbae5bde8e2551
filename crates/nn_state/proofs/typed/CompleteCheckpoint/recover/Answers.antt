use Rattle.nn_host.specs.Moments.{disk_at}
use Rattle.nn_state.proofs.CompleteLemmas.{replaced_there}
use Rattle.nn_state.proofs.CallLemmas.{then_still, then_was, then_fits, replaced_work, replaced_was, replaced_state}
use Rattle.nn_state.proofs.typed.CompleteCheckpoint.recover.Goals as goal

pub put_under-requires-clause-there : goal.put_under-requires-clause-there
put_under-requires-clause-there g c = λ tells. replaced_there (disk_at (g.H.Host.state c.args.host.now) c.args.self.dir.0) (c.requires.fits tells)

pub returns-in-Ok-clause-ok : goal.returns-in-Ok-clause-ok
returns-in-Ok-clause-ok g c = then_was c.by_previous.ensures.any_moment c.by_previous.result (replaced_was (λ tells. g.met.H.Host.lawful tells c.args.host.now) c.requires.fits c.in-Ok.ensures.ok) c.by_previous.ensures.kept

pub returns-in-Ok-clause-fits : goal.returns-in-Ok-clause-fits
returns-in-Ok-clause-fits g c = λ tells versioned. then_fits c.by_previous.result c.by_previous.ensures.any_moment tells (c.by_previous.ensures.fits tells (replaced_state (λ tells. g.met.H.Host.lawful tells c.args.host.now) c.requires.fits c.in-Ok.ensures.ok tells))

pub returns-in-Ok-clause-any_moment : goal.returns-in-Ok-clause-any_moment
returns-in-Ok-clause-any_moment g c = then_still (replaced_work (λ tells. g.met.H.Host.lawful tells c.args.host.now) c.requires.fits c.in-Ok.ensures.any_moment) c.by_previous.ensures.any_moment

pub returns-in-Err-clause-any_moment : goal.returns-in-Err-clause-any_moment
returns-in-Err-clause-any_moment g c = replaced_work (λ tells. g.met.H.Host.lawful tells c.args.host.now) c.requires.fits c.in-Err.ensures.any_moment
