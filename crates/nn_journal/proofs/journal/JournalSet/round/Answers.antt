use Rattle.std.proofs.Common.{arith}
use Rattle.nn_base.proofs.DirSetLemmas.{not_more}
use Rattle.nn_journal.specs.Places.{place_of}
use Rattle.nn_journal.proofs.BringsLemmas.{end_finalizes, none_finalizes, went_both, went_step}
use Rattle.nn_journal.proofs.CarriedLemmas.{still_live}
use Rattle.nn_journal.proofs.JournalLemmas.{end_of, start_of, both_of, both_ended}
use Rattle.nn_journal.proofs.journal.JournalSet.round.Goals as goal

pub returns-then-self-clause-brings : goal.returns-then-self-clause-brings
returns-then-self-clause-brings g c = both_of c.args.self.now c.end_all.new.self c.start_all.new.self c.end_all.ensures.kept.0 c.start_all.ensures.place.2
    (end_of c.args.self.now c.end_all.new.self c.end_all.ensures.kept c.end_all.ensures.stepped c.end_all.ensures.record c.requires.small c.if-self.true c.end_all.ensures.place)
    (start_of c.end_all.new.self c.start_all.new.self c.start_all.ensures.kept c.start_all.ensures.stepped c.start_all.ensures.record c.end_all.ensures.place.0 c.start_all.ensures.place c.start_all.ensures.size)

pub returns-else-self-clause-brings : goal.returns-else-self-clause-brings
returns-else-self-clause-brings g c = both_of c.args.self.now c.start_all-else-self.new.self c.end_all-else-self.new.self c.start_all-else-self.ensures.kept.0 c.end_all-else-self.ensures.place.2
    (start_of c.args.self.now c.start_all-else-self.new.self c.start_all-else-self.ensures.kept c.start_all-else-self.ensures.stepped c.start_all-else-self.ensures.record c.if-self.false c.start_all-else-self.ensures.place c.start_all-else-self.ensures.size)
    (end_of c.start_all-else-self.new.self c.end_all-else-self.new.self c.end_all-else-self.ensures.kept c.end_all-else-self.ensures.stepped c.end_all-else-self.ensures.record (omega (arith, c.start_all-else-self.ensures.small)) c.start_all-else-self.ensures.place.0 c.end_all-else-self.ensures.place)

pub returns-then-self-clause-ended : goal.returns-then-self-clause-ended
returns-then-self-clause-ended g c = both_ended c.args.self.now c.end_all.new.self c.start_all.new.self c.end_all.ensures.kept.0 c.end_all.ensures.place.0 c.end_all.ensures.place.2
    (end_finalizes (place_of c.args.self.now) (place_of c.end_all.new.self) c.end_all.ensures.stepped c.end_all.ensures.record c.requires.small)
    (end_of c.args.self.now c.end_all.new.self c.end_all.ensures.kept c.end_all.ensures.stepped c.end_all.ensures.record c.requires.small c.if-self.true c.end_all.ensures.place)
    (start_of c.end_all.new.self c.start_all.new.self c.start_all.ensures.kept c.start_all.ensures.stepped c.start_all.ensures.record c.end_all.ensures.place.0 c.start_all.ensures.place c.start_all.ensures.size)

pub returns-else-self-clause-ended : goal.returns-else-self-clause-ended
returns-else-self-clause-ended g c = none_finalizes (place_of c.args.self.now) c.args.self.now.live c.end_all-else-self.new.self.live (g.H.Host.state c.args.host.now) (g.H.Host.state c.end_all-else-self.new.host) c.if-self.false

pub returns-then-self-clause-calls : goal.returns-then-self-clause-calls
returns-then-self-clause-calls g c = λ tells. omega (arith, c.end_all.ensures.stepped.calls tells, c.start_all.ensures.stepped.calls tells, not_more c.args.self.now.live c.end_all.new.self.live (still_live c.end_all.ensures.stepped.counted))

pub returns-else-self-clause-calls : goal.returns-else-self-clause-calls
returns-else-self-clause-calls g c = λ tells. omega (
  arith,
  c.start_all-else-self.ensures.stepped.calls tells,
  c.end_all-else-self.ensures.stepped.calls tells,
  not_more c.args.self.now.live c.start_all-else-self.new.self.live (still_live c.start_all-else-self.ensures.stepped.counted),
)

pub returns-then-self-clause-went : goal.returns-then-self-clause-went
returns-then-self-clause-went g c = went_both (went_step c.end_all.ensures.stepped) (went_step c.start_all.ensures.stepped)

pub returns-else-self-clause-went : goal.returns-else-self-clause-went
returns-else-self-clause-went g c = went_both (went_step c.start_all-else-self.ensures.stepped) (went_step c.end_all-else-self.ensures.stepped)
