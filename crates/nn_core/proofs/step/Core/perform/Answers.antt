use Rattle.nn_core.proofs.WorkLemmas.{performed}
use Rattle.nn_core.proofs.step.Core.perform.Goals as goal

pub returns-clause-performed : goal.returns-clause-performed
returns-clause-performed g c =
    let core = c.args.self.now in
    let new = c.work.new.self in
    performed c.args.change core.count core.version (g.T.Tree.meaning core.tree) (g.T.Tree.meaning new.tree) core.time core.journal new.journal (g.H.Host.state c.args.host.now) (g.H.Host.state c.work.new.host) c.work.result c.requires.ready c.work.ensures.works
