use Rattle.std.proofs.Common.{◌++◌, refl, sym, ◌∙◌, ap, subst, arith}
use Rattle.nn_base.proofs.DirSetLemmas.{at_most_eight}
use Rattle.nn_host.specs.Calls.{next_count}
use Rattle.nn_reader.specs.Reader.{ahead, budget}
use Rattle.nn_reader.proofs.ScriptLemmas.{line_read_so, last_read_so, none_read_so, past_read_so}
use Rattle.nn_core.specs.Ready.{IsReady}
use Rattle.nn_serve.proofs.LoopLemmas.{answering_nothing, answering_more, answering_as, closes_as, last_budget, ends_line, ends_last, ends_last_line, ends_none, ends_long, ends_failed}
use Rattle.nn_serve.proofs.serving.serve.Goals as goal

pub lines-init : goal.lines-init
lines-init g c = record {
  ready = c.requires.ready;
  count = refl;
  imaged = c.requires.imaged;
  ids = omega (arith, c.requires.ids, c.requires.budget, at_most_eight c.args.core.now.journal.live);
  faults = refl;
  answering = λ at origin serving room. answering_nothing (g.S.Source.left c.args.source.now) (ahead c.args.reader.now) (budget c.args.reader.now) c.requires.ahead c.requires.budget serving room;
}

pub lines-preserved : goal.lines-preserved
lines-preserved g c =
    let line = line_read_so c.in-Ok-Line.field-0 c.in-Ok-Line.field-0-is c.line.ensures c.in-Ok-Line.ensures.ok in
    let new = c.answer.new.core in record {
      ready = subst (λ k. IsReady new.journal k (g.H.Host.state c.answer.new.host)) (sym c.in-Ok.ensures.same.0) c.in-Ok.ensures.ready;
      count = c.in-Ok.ensures.same.0 ∙ c.lines.invariant.count;
      imaged = c.in-Ok.ensures.imaged;
      ids = omega (arith, c.lines.invariant.ids, c.in-Ok.ensures.last, line.budget);
      faults = c.in-Ok-Line.ensures.counted_ok ∙ c.lines.invariant.faults;
      answering = λ at origin serving room. answering_as (sym c.in-Ok.ensures.same.0) (sym c.in-Ok.ensures.same.1)
          (answering_more (c.lines.invariant.answering at origin serving room) c.in-Ok.field-0 (ahead c.next.new.self) (g.S.Source.left c.next.new.source) c.next.new.self.room line c.in-Ok.ensures.turns);
    }

pub returns-in-Err-answer : goal.returns-in-Err-answer
returns-in-Err-answer g c = λ at origin serving room.
    let line = line_read_so c.in-Ok-Line.field-0 c.in-Ok-Line.field-0-is c.line.ensures c.in-Ok-Line.ensures.ok in
    let new = c.answer.new.core in
    ends_line (c.lines.invariant.answering at origin serving room) (g.T.Tree.meaning new.tree) new.time new.journal c.in-Err-answer.end (ahead c.next.new.self) (g.S.Source.left c.next.new.source) c.next.new.self.room line c.in-Err-answer.ensures.turns
    (c.in-Ok-Line.ensures.counted_ok ∙ c.lines.invariant.faults) c.run_end.ensures

pub close-requires-clause-ids : goal.close-requires-clause-ids
close-requires-clause-ids g c =
    let last = last_read_so c.in-Ok-Last.field-0 c.in-Ok-Last.field-0-is c.line-in-Ok-Last.ensures c.in-Ok-Last.ensures.ok in
    omega (arith, c.lines.invariant.ids, c.in-Ok-answer.ensures.last, last_budget {before = ahead c.lines.reader ++ g.S.Source.left c.lines.source} {after = ahead c.next.new.self ++ g.S.Source.left c.next.new.source} last)

pub returns-in-Ok-answer : goal.returns-in-Ok-answer
returns-in-Ok-answer g c = λ at origin serving room.
    let last = last_read_so c.in-Ok-Last.field-0 c.in-Ok-Last.field-0-is c.line-in-Ok-Last.ensures c.in-Ok-Last.ensures.ok in
    ends_last (c.lines.invariant.answering at origin serving room) c.in-Ok-answer.field-0 (ahead c.next.new.self) (g.S.Source.left c.next.new.source) last c.in-Ok-answer.ensures.turns (closes_as c.in-Ok-answer.ensures.same.0 c.in-Ok-answer.ensures.same.1 c.close.ensures)
    (c.in-Ok-Last.ensures.counted_ok ∙ c.lines.invariant.faults)

pub returns-in-Err-answer-2 : goal.returns-in-Err-answer-2
returns-in-Err-answer-2 g c = λ at origin serving room.
    let last = last_read_so c.in-Ok-Last.field-0 c.in-Ok-Last.field-0-is c.line-in-Ok-Last.ensures c.in-Ok-Last.ensures.ok in
    let new = c.answer-in-Ok-Last.new.core in
    ends_last_line (c.lines.invariant.answering at origin serving room) (g.T.Tree.meaning new.tree) new.time new.journal c.in-Err-answer-2.end (ahead c.next.new.self) (g.S.Source.left c.next.new.source) last c.in-Err-answer-2.ensures.turns
    (c.in-Ok-Last.ensures.counted_ok ∙ c.lines.invariant.faults) c.run_end-in-Err-answer-2.ensures

pub returns-in-Ok-End : goal.returns-in-Ok-End
returns-in-Ok-End g c = λ at origin serving room.
    ends_none (c.lines.invariant.answering at origin serving room) (ahead c.next.new.self) (g.S.Source.left c.next.new.source)
    (none_read_so (budget c.lines.reader) (budget c.next.new.self) c.next.new.self.line.items c.in-Ok-End.field-0 c.in-Ok-End.field-0-is c.in-Ok-End.ensures.ok) c.close-in-Ok-End.ensures (c.in-Ok-End.ensures.counted_ok ∙ c.lines.invariant.faults)

pub returns-in-Ok-TooLong : goal.returns-in-Ok-TooLong
returns-in-Ok-TooLong g c = λ at origin serving room.
    ends_long (c.lines.invariant.answering at origin serving room) (ahead c.next.new.self) (g.S.Source.left c.next.new.source)
    (past_read_so (budget c.next.new.self) c.next.new.self.line.items c.in-Ok-TooLong.field-0 c.in-Ok-TooLong.field-0-is c.in-Ok-TooLong.ensures.ok) (c.in-Ok-TooLong.ensures.spent c.in-Ok-TooLong.field-0-is)
    (c.in-Ok-TooLong.ensures.counted_ok ∙ c.lines.invariant.faults)

pub returns-in-Err : goal.returns-in-Err
returns-in-Err g c = λ at origin serving room.
    ends_failed (c.lines.invariant.answering at origin serving room) (g.S.Source.left c.next.new.source) c.in-Err.ensures.err (c.in-Err.ensures.counted_err ∙ ap next_count c.lines.invariant.faults)
