use Rattle.std.proofs.Common.{arith}
use Rattle.nn_journal.proofs.RoundLemmas.{rest_sub, rest_fewer}
use Rattle.nn_journal.proofs.journal.JournalSet.drop_dirs.Goals as goal

pub rounds-requires-clause-below : goal.rounds-requires-clause-below
rounds-requires-clause-below g c = λ j there. c.requires.below j (rest_sub c.args.self.now.live c.args.gone c.and_not-self.ensures j there)

pub returns-clause-last : goal.returns-clause-last
returns-clause-last g c = let (i, goes, there) = c.requires.live in omega (arith, c.rounds.ensures.ids, rest_fewer c.args.self.now.live c.args.gone c.and_not-self.ensures i goes there)

pub returns-clause-brought : goal.returns-clause-brought
returns-clause-brought g c = record { rest = c.and_not-self.result; without = c.and_not-self.ensures; ahead = c.rounds.ensures.brought; ended = c.rounds.ensures.ended; went = c.rounds.ensures.went; calls = c.rounds.ensures.calls }
