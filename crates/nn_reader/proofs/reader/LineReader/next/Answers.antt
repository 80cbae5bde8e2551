use Rattle.std.proofs.Common.{ℕ, ◌++◌, length, ap, sym, ◌∙◌, refl, subst, arith}
use Rattle.nn_reader.specs.declared.reader.Next.{Next}
use Rattle.nn_reader.specs.Reader.{ahead, budget, IsNextLine, Refilled}
use Rattle.nn_reader.proofs.ReaderLemmas.{has_read_more, has_read_on, ended_line, ended_as, last_line, past_room, stopped, on_err, never_past}
use Rattle.nn_reader.proofs.reader.LineReader.next.Goals as goal

pub returns-then-read_ahead-clause-ok : goal.returns-then-read_ahead-clause-ok
returns-then-read_ahead-clause-ok g c =
    let left = g.S.Source.left c.parts.source in
    let dropped = c.drop_carriage_return.ensures in
    ended_as (ended_line left c.parts.self.room c.parts.invariant.read c.if-read_ahead.ensures.read)
    (ap (λ x. x ++ left) dropped.ahead)
    (omega (arith, ap length dropped.ahead, dropped.room, c.if-read_ahead.ensures.room))
    dropped.line

pub returns-then-self-eq0-clause-ok : goal.returns-then-self-eq0-clause-ok
returns-then-self-eq0-clause-ok g c =
    let read = has_read_more (g.S.Source.left c.parts.source) c.parts.self.room c.parts.invariant.read c.if-read_ahead.ensures.read in
    let line = c.read_ahead.new.self.line.items in
    subst (λ (next : Next). IsNextLine g.S.Source.told next (ahead c.args.self.now ++ g.S.Source.left c.args.source.now) (ahead c.read_ahead.new.self ++ g.S.Source.left c.one_more.new.source) (budget c.args.self.now) (budget c.read_ahead.new.self) line) (sym c.past_room.ensures)
    (past_room (g.S.Source.left c.parts.source) (g.S.Source.left c.one_more.new.source) c.in_ok-more.more _ read (c.if-read_ahead.ensures.read.all refl) (omega (arith, c.if-self-eq0.true, c.if-read_ahead.ensures.room)) (omega (arith, c.if-read_ahead.ensures.room)) c.in_ok-more.ensures.ok)

pub returns-in_err-more-clause-err : goal.returns-in_err-more-clause-err
returns-in_err-more-clause-err g c =
    let read = has_read_more (g.S.Source.left c.parts.source) c.parts.self.room c.parts.invariant.read c.if-read_ahead.ensures.read in
    on_err _ (stopped read (λ tells. ap (λ x. x ++ g.S.Source.left c.parts.source) (c.if-read_ahead.ensures.read.all refl) ∙ sym (c.in_err-more.ensures.err tells)))

pub returns-in_err-some-clause-err : goal.returns-in_err-some-clause-err
returns-in_err-some-clause-err g c =
    let read = has_read_more (g.S.Source.left c.parts.source) c.parts.self.room c.parts.invariant.read c.if-read_ahead.ensures.read in
    on_err _ (stopped read (λ tells. ap (λ x. x ++ g.S.Source.left c.parts.source) (c.if-read_ahead.ensures.read.all refl) ∙ sym (c.in_err-some.ensures.err tells)))

pub returns-then-not-some-clause-ok : goal.returns-then-not-some-clause-ok
returns-then-not-some-clause-ok g c =
    let read = has_read_more (g.S.Source.left c.parts.source) c.parts.self.room c.parts.invariant.read c.if-read_ahead.ensures.read in
    let taken = subst (λ (room : ℕ). Refilled g.S.Source.told c.in_ok-some.some (g.S.Source.left c.parts.source) (g.S.Source.left c.refill.new.source) (ahead c.refill.new.self) room c.refill.new.self.room) c.if-read_ahead.ensures.room c.in_ok-some.ensures.ok in
    let on = has_read_on read (c.if-read_ahead.ensures.read.all refl) taken c.in_ok-some.ensures.line in
    let line = c.refill.new.self.line.items in
    let rest = ahead c.refill.new.self ++ g.S.Source.left c.refill.new.source in
    subst (λ (next : Next). IsNextLine g.S.Source.told next (ahead c.args.self.now ++ g.S.Source.left c.args.source.now) rest (budget c.args.self.now) (budget c.refill.new.self) line) (sym c.last.ensures)
    (last_line line on (λ tells. sym (taken.bytes tells) ∙ taken.none tells c.if-not-some.true))

pub parts-preserved : goal.parts-preserved
parts-preserved g c =
    let read = has_read_more (g.S.Source.left c.parts.source) c.parts.self.room c.parts.invariant.read c.if-read_ahead.ensures.read in
    let taken = subst (λ (room : ℕ). Refilled g.S.Source.told c.in_ok-some.some (g.S.Source.left c.parts.source) (g.S.Source.left c.refill.new.source) (ahead c.refill.new.self) room c.refill.new.self.room) c.if-read_ahead.ensures.room c.in_ok-some.ensures.ok in
    record {
      read = has_read_on read (c.if-read_ahead.ensures.read.all refl) taken c.in_ok-some.ensures.line;
      faults = c.in_ok-some.ensures.counted_ok ∙ c.parts.invariant.faults;
    }

pub returns-then-self-eq0-clause-spent : goal.returns-then-self-eq0-clause-spent
returns-then-self-eq0-clause-spent g c = λ is. c.if-read_ahead.ensures.read.all refl

pub returns-then-not-some-clause-spent : goal.returns-then-not-some-clause-spent
returns-then-not-some-clause-spent g c = λ is. absurd (never_past c.refill.new.self.line.items (sym c.last.ensures ∙ is))
