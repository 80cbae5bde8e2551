use Rattle.std.proofs.Common.{◌+◌, cond}
use Rattle.nn_base.specs.DirSets.{count_of}
use Rattle.nn_journal.proofs.RoundLemmas.{InRounds}
use Rattle.nn_journal.proofs.journal.JournalSet.rounds.Given as goal

abbrev pub invariant-loop-again : goal.invariant-loop-again
invariant-loop-again g l = InRounds g.H.Host.told l.fn.self l.self l.again (g.H.Host.state l.fn.host) (g.H.Host.state l.host)

abbrev pub decreases-loop-again : goal.decreases-loop-again
decreases-loop-again g l = cond l.again (count_of l.self.live + 1) 0
