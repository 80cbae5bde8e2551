use Rattle.std.proofs.Common.{arith}
use Rattle.nn_base.proofs.DirSetLemmas.{at_most_eight}
use Rattle.nn_journal.proofs.RoundLemmas.{rounds_begin, rounds_on, falls, rounds_ahead, rounds_ended, rounds_calls}
use Rattle.nn_journal.proofs.journal.JournalSet.rounds.Goals as goal

pub loop-again-init : goal.loop-again-init
loop-again-init g c = rounds_begin c.args.self.now c.requires.below c.requires.empty c.requires.room c.requires.order c.requires.small

pub round-requires-clause-ids : goal.round-requires-clause-ids
round-requires-clause-ids g c = omega (arith, c.requires.ids, c.loop-again.invariant.rolling.ids, at_most_eight c.args.self.now.live)

pub loop-again-preserved : goal.loop-again-preserved
loop-again-preserved g c = rounds_on c.round.new.self c.loop-again.invariant c.loop-again-test.true c.round.ensures.brings c.round.ensures.went c.round.ensures.place c.round.ensures.begins c.round.ensures.ended c.round.ensures.calls c.lacks-again.result c.lacks-again.ensures.yes c.lacks-again.ensures.no c.round.ensures.empty c.round.ensures.room c.round.ensures.kept c.round.ensures.below

pub loop-again-smaller : goal.loop-again-smaller
loop-again-smaller g c = falls c.loop-again-test.true c.round.ensures.went c.lacks-again.result c.lacks-again.ensures.yes

pub returns-clause-brought : goal.returns-clause-brought
returns-clause-brought g c = rounds_ahead c.loop-again-test.false c.loop-again.invariant.rolling

pub returns-clause-ended : goal.returns-clause-ended
returns-clause-ended g c = rounds_ended c.loop-again-test.false c.loop-again.invariant.rolling

pub returns-clause-calls : goal.returns-clause-calls
returns-clause-calls g c = rounds_calls c.loop-again-test.false c.loop-again.invariant.rolling
