use Rattle.std.proofs.Common.{arith}
use Rattle.nn_base.proofs.DirSetLemmas.{at_most_eight}
use Rattle.nn_core.proofs.StandLemmas.{rolls_by}
use Rattle.nn_core.proofs.record.close_segment.Goals as goal

pub returns-clause-rolls : goal.returns-clause-rolls
returns-clause-rolls g c = λ tells version ns ids stands. rolls_by c.args.journal.now c.end_segment.new.self (g.H.Host.state c.args.host.now) (g.H.Host.state c.end_segment.new.host) c.end_segment.ensures.brought c.requires.ready.below c.end_segment.ensures.rose
    (omega (arith, ids, c.end_segment.ensures.last, at_most_eight c.args.journal.now.live)) tells version ns stands
