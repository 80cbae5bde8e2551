use Rattle.std.proofs.Common.{inl, inr, ⊎_elim, refl, ◌∙◌, ap, arith, vec_len, length}
use Rattle.nn_journal.specs.Places.{Place, place_of}
use Rattle.nn_journal.proofs.BringsLemmas.{empty_brings, went_refl, went_both, went_step}
use Rattle.nn_journal.proofs.JournalLemmas.{write_of, logged_ahead_of, logged_finalizes}
use Rattle.nn_journal.proofs.MarkLemmas.{empty_items, some_items}
use Rattle.nn_journal.proofs.RoundLemmas.{settled_ids_more, settled_none, settled_calls, settled_calls_more}
use Rattle.nn_journal.proofs.journal.JournalSet.sync.Goals as goal

pub returns-clause-brought : goal.returns-clause-brought
returns-clause-brought g c = logged_ahead_of c.args.self.now c.write_all.new.self c.settle.new.self c.must_roll-again.result c.write_all.ensures.kept.0 (λ is. (c.must_roll-again.ensures.no is).0) c.write_all.ensures.place.2
    (write_of c.args.self.now c.write_all.new.self c.write_all.ensures.kept c.write_all.ensures.stepped (some_items c.args.self.now.buffer.items (vec_len c.args.self.now.buffer) c.is_empty.result (omega (arith, c.args.self.now.buffer.ok.0)) c.is_empty.ensures c.if-is_empty.false) (omega (arith, c.requires.fit, c.args.self.now.buffer.ok.0)) (omega (arith, c.write_all.ensures.size, c.args.self.now.buffer.ok.0)) c.write_all.ensures.place) c.settle.ensures.settled

pub returns-clause-last : goal.returns-clause-last
returns-clause-last g c = omega (arith, settled_ids_more c.must_roll-again.result c.write_all.ensures.stepped.counted c.settle.ensures.settled, c.write_all.ensures.place.2)

pub returns-clause-calls : goal.returns-clause-calls
returns-clause-calls g c = λ small. settled_calls _ c.must_roll-again.result c.write_all.ensures.stepped.calls c.write_all.ensures.stepped.counted
    (λ is. ⊎_elim (λ ne. ne) (λ full. absurd (omega (arith, full, small, c.write_all.ensures.size))) (c.must_roll-again.ensures.yes is)) c.settle.ensures.settled

pub returns-clause-calls_full : goal.returns-clause-calls_full
returns-clause-calls_full g c = λ tells. omega (arith, settled_calls_more _ c.must_roll-again.result c.write_all.ensures.stepped.calls c.write_all.ensures.stepped.counted c.settle.ensures.settled tells)

pub returns-clause-went : goal.returns-clause-went
returns-clause-went g c = went_both (went_step c.write_all.ensures.stepped) c.settle.ensures.went

pub returns-then-is_empty-clause-brought : goal.returns-then-is_empty-clause-brought
returns-then-is_empty-clause-brought g c = empty_brings (place_of c.args.self.now) (empty_items c.args.self.now.buffer.items (vec_len c.args.self.now.buffer) c.is_empty.result (omega (arith, c.args.self.now.buffer.ok.0)) c.is_empty.ensures c.if-is_empty.true)

pub returns-then-is_empty-clause-went : goal.returns-then-is_empty-clause-went
returns-then-is_empty-clause-went g c = went_refl

pub returns-clause-stays : goal.returns-clause-stays
returns-clause-stays g c = λ same small.
    let at = (settled_none c.must_roll-again.result c.write_all.new.self.size c.must_roll-again.ensures.yes (omega (arith, c.write_all.ensures.size, small)) c.write_all.ensures.stepped.counted c.settle.ensures.went.counted same c.settle.ensures.settled).0 in
    (ap (λ (p : Place). p.last) at ∙ c.write_all.ensures.place.2, ap (λ (p : Place). p.first) at ∙ c.write_all.ensures.place.1, ap (λ (p : Place). p.size) at ∙ c.write_all.ensures.size)

pub returns-clause-ended : goal.returns-clause-ended
returns-clause-ended g c = λ why. logged_finalizes c.args.self.now c.write_all.new.self c.settle.new.self c.must_roll-again.result c.must_roll-again.ensures.no c.write_all.ensures.stepped
    (some_items c.args.self.now.buffer.items (vec_len c.args.self.now.buffer) c.is_empty.result (omega (arith, c.args.self.now.buffer.ok.0)) c.is_empty.ensures c.if-is_empty.false) (omega (arith, c.requires.fit, c.args.self.now.buffer.ok.0))
    (record { going = c.write_all.ensures.place.0; head = c.write_all.ensures.kept.1; first = c.write_all.ensures.place.1; last = c.write_all.ensures.place.2; size = omega (arith, c.write_all.ensures.size, c.args.self.now.buffer.ok.0) })
    c.settle.ensures.settled (⊎_elim (λ ne. inl ne) (λ full. inr (omega (arith, full, c.write_all.ensures.size))) why)

pub returns-clause-idle : goal.returns-clause-idle
returns-clause-idle g c = λ none. absurd (omega (arith, (some_items c.args.self.now.buffer.items (vec_len c.args.self.now.buffer) c.is_empty.result (omega (arith, c.args.self.now.buffer.ok.0)) c.is_empty.ensures c.if-is_empty.false), ap length none))

pub returns-then-is_empty-clause-stays : goal.returns-then-is_empty-clause-stays
returns-then-is_empty-clause-stays g c = λ same small. (refl, refl, omega (arith, ap length (empty_items c.args.self.now.buffer.items (vec_len c.args.self.now.buffer) c.is_empty.result (omega (arith, c.args.self.now.buffer.ok.0)) c.is_empty.ensures c.if-is_empty.true), c.args.self.now.buffer.ok.0))

pub returns-then-is_empty-clause-ended : goal.returns-then-is_empty-clause-ended
returns-then-is_empty-clause-ended g c = λ why. absurd (⊎_elim (λ ne. ne refl) (λ full. omega (arith, full, c.requires.fit, ap length (empty_items c.args.self.now.buffer.items (vec_len c.args.self.now.buffer) c.is_empty.result (omega (arith, c.args.self.now.buffer.ok.0)) c.is_empty.ensures c.if-is_empty.true), c.args.self.now.buffer.ok.0)) why)
