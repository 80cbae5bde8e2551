use Rattle.std.proofs.Common.{inl, ◌∙◌, sym, ap, arith}
use Rattle.nn_journal.specs.Places.{Place}
use Rattle.nn_journal.proofs.BringsLemmas.{went_both, went_step}
use Rattle.nn_journal.proofs.JournalLemmas.{start_of, ahead_of}
use Rattle.nn_journal.proofs.RoundLemmas.{settled_ids, settled_since, settled_begins, settled_none, settled_calls}
use Rattle.nn_journal.proofs.journal.JournalSet.start_segment.Goals as goal

pub returns-clause-brought : goal.returns-clause-brought
returns-clause-brought g c = ahead_of c.args.self.now c.start_all.new.self c.settle.new.self c.lacks-again.result c.start_all.ensures.kept.0 c.lacks-again.ensures.no (omega (arith, c.start_all.ensures.place.2))
    (start_of c.args.self.now c.start_all.new.self c.start_all.ensures.kept c.start_all.ensures.stepped c.start_all.ensures.record c.requires.going c.start_all.ensures.place c.start_all.ensures.size) c.settle.ensures.settled

pub returns-clause-last : goal.returns-clause-last
returns-clause-last g c = omega (arith, settled_ids c.lacks-again.result c.start_all.ensures.stepped.counted c.lacks-again.ensures.yes c.settle.ensures.settled, c.start_all.ensures.place.2)

pub returns-clause-went : goal.returns-clause-went
returns-clause-went g c = went_both (went_step c.start_all.ensures.stepped) c.settle.ensures.went

pub returns-clause-begins : goal.returns-clause-begins
returns-clause-begins g c = settled_begins c.lacks-again.result c.settle.ensures.settled (c.start_all.ensures.place.1 ∙ sym c.start_all.ensures.place.2) (c.settle.ensures.place.0 ∙ c.start_all.ensures.place.0)

pub returns-clause-rose : goal.returns-clause-rose
returns-clause-rose g c = omega (arith, settled_since c.lacks-again.result c.settle.ensures.settled, c.start_all.ensures.place.2)

pub returns-clause-next : goal.returns-clause-next
returns-clause-next g c = λ same. ap (λ (p : Place). p.last) (settled_none c.lacks-again.result 0 (λ is. inl (c.lacks-again.ensures.yes is)) (omega arith) c.start_all.ensures.stepped.counted c.settle.ensures.went.counted same c.settle.ensures.settled).0 ∙ c.start_all.ensures.place.2

pub returns-clause-calls : goal.returns-clause-calls
returns-clause-calls g c = settled_calls _ c.lacks-again.result c.start_all.ensures.stepped.calls c.start_all.ensures.stepped.counted c.lacks-again.ensures.yes c.settle.ensures.settled
