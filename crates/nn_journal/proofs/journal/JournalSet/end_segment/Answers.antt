use Rattle.std.proofs.Common.{inl, ◌∙◌, ap, arith}
use Rattle.nn_journal.specs.Places.{Place, place_of}
use Rattle.nn_journal.proofs.BringsLemmas.{went_both, went_step, end_finalizes}
use Rattle.nn_journal.proofs.JournalLemmas.{end_of, ahead_of, ended_of}
use Rattle.nn_journal.proofs.RoundLemmas.{settled_ids, settled_since, settled_none, settled_calls}
use Rattle.nn_journal.proofs.journal.JournalSet.end_segment.Goals as goal

pub returns-clause-brought : goal.returns-clause-brought
returns-clause-brought g c = ahead_of c.args.self.now c.end_all.new.self c.settle.new.self c.lacks-again.result c.end_all.ensures.kept.0 c.lacks-again.ensures.no (omega (arith, c.end_all.ensures.place.2))
    (end_of c.args.self.now c.end_all.new.self c.end_all.ensures.kept c.end_all.ensures.stepped c.end_all.ensures.record (omega (arith, c.requires.fit)) c.requires.going c.end_all.ensures.place) c.settle.ensures.settled

pub returns-clause-last : goal.returns-clause-last
returns-clause-last g c = omega (arith, settled_ids c.lacks-again.result c.end_all.ensures.stepped.counted c.lacks-again.ensures.yes c.settle.ensures.settled, c.end_all.ensures.place.2)

pub returns-clause-went : goal.returns-clause-went
returns-clause-went g c = went_both (went_step c.end_all.ensures.stepped) c.settle.ensures.went

pub returns-clause-ended : goal.returns-clause-ended
returns-clause-ended g c = ended_of c.args.self.now c.end_all.new.self c.settle.new.self c.lacks-again.result c.end_all.ensures.kept.0 c.lacks-again.ensures.no c.end_all.ensures.place.0 c.end_all.ensures.place.2
    (end_finalizes (place_of c.args.self.now) (place_of c.end_all.new.self) c.end_all.ensures.stepped c.end_all.ensures.record (omega (arith, c.requires.fit)))
    (end_of c.args.self.now c.end_all.new.self c.end_all.ensures.kept c.end_all.ensures.stepped c.end_all.ensures.record (omega (arith, c.requires.fit)) c.requires.going c.end_all.ensures.place) c.settle.ensures.settled

pub returns-clause-rose : goal.returns-clause-rose
returns-clause-rose g c = omega (arith, settled_since c.lacks-again.result c.settle.ensures.settled, c.end_all.ensures.place.2)

pub returns-clause-next : goal.returns-clause-next
returns-clause-next g c = λ same. ap (λ (p : Place). p.last) (settled_none c.lacks-again.result 0 (λ is. inl (c.lacks-again.ensures.yes is)) (omega arith) c.end_all.ensures.stepped.counted c.settle.ensures.went.counted same c.settle.ensures.settled).0 ∙ c.end_all.ensures.place.2

pub returns-clause-calls : goal.returns-clause-calls
returns-clause-calls g c = settled_calls _ c.lacks-again.result c.end_all.ensures.stepped.calls c.end_all.ensures.stepped.counted c.lacks-again.ensures.yes c.settle.ensures.settled
