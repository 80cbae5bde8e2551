use Rattle.std.proofs.Common.{ap}
use Rattle.nn_state.specs.Typed.{state_of, dir_of}
use Rattle.nn_state.specs.declared.typed.Found.{Found}
use Rattle.nn_state.proofs.RestLemmas.{fresh_was, rest_work, looked_work, normal_looked}
use Rattle.nn_state.proofs.bay.recover_found.Goals as goal

pub returns-in-NotFormatted-clause-ok : goal.returns-in-NotFormatted-clause-ok
returns-in-NotFormatted-clause-ok g c = fresh_was (dir_of c.args.it).0 (g.H.Host.state c.args.host.now) c.args.it (λ tells. g.met.H.Host.lawful tells c.args.host.now) c.requires.fits (ap state_of c.in-NotFormatted.is)

pub returns-in-NotFormatted-clause-any_moment : goal.returns-in-NotFormatted-clause-any_moment
returns-in-NotFormatted-clause-any_moment g c = rest_work (dir_of c.args.it).0 (g.H.Host.state c.args.host.now) c.args.it (λ tells. g.met.H.Host.lawful tells c.args.host.now) c.requires.fits c.requires.there

pub returns-in-Normal-clause-ok : goal.returns-in-Normal-clause-ok
returns-in-Normal-clause-ok g c = normal_looked (dir_of c.args.it).0 (g.H.Host.state c.args.host.now) c.args.it (λ tells. g.met.H.Host.lawful tells c.args.host.now) c.requires.fits (ap state_of c.in-Normal.is) c.settled.result
    (ap (λ (it : Found). (dir_of it).0) c.in-Normal.is) c.settled.ensures.any_moment c.settled.ensures.kept

pub returns-in-Normal-clause-any_moment : goal.returns-in-Normal-clause-any_moment
returns-in-Normal-clause-any_moment g c = looked_work (dir_of c.args.it).0 (g.H.Host.state c.args.host.now) c.args.it (λ tells. g.met.H.Host.lawful tells c.args.host.now) c.requires.fits c.requires.there (ap (λ (it : Found). (dir_of it).0) c.in-Normal.is) c.settled.ensures.any_moment
