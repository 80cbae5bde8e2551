use Rattle.nn_core.proofs.EndLemmas.{ended}
use Rattle.nn_core.proofs.step.Core.end.Goals as goal

pub returns-clause-ended : goal.returns-clause-ended
returns-clause-ended g c =
    let core = c.args.self.now in
    ended core.version core.journal c.close_segment.new.journal core.count (g.T.Tree.meaning core.tree) (g.H.Host.state c.args.host.now) (g.H.Host.state c.close_segment.new.host) c.close_segment.result c.requires.ready.listed
    (λ tells ids stands. c.close_segment.ensures.rolls tells core.version (g.T.Tree.meaning core.tree) ids stands) c.close_segment.ensures.went c.close_segment.ensures.closed c.close_segment.ensures.some c.close_segment.ensures.left
