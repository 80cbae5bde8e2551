use Rattle.std.proofs.Common.{◌∙◌, refl, ap}
use Rattle.nn_host.specs.Calls.{next_count}
use Rattle.nn_server.specs.Scene.{scene}
use Rattle.nn_reader.specs.Reader.{ahead, budget}
use Rattle.nn_server.proofs.DryLemmas.{answering_nothing, answering_more, ending_done, ending_last, ending_long, ending_failed, ending_unsaid}
use Rattle.nn_reader.proofs.ScriptLemmas.{line_read_so, last_read_so, none_read_so, past_read_so, line_next, last_next}
use Rattle.nn_server.proofs.dry_run.answer_all.Goals as goal

pub lines-init : goal.lines-init
lines-init g c = record {
  answering = answering_nothing (g.S.Source.left c.args.source.now) (ahead c.args.reader.now) (budget c.args.reader.now) c.requires.ahead c.requires.budget c.requires.first;
  faults = refl;
}

pub returns-in-Ok-End : goal.returns-in-Ok-End
returns-in-Ok-End g c = ending_done (ahead c.next.new.self) (g.S.Source.left c.next.new.source) c.lines.invariant.answering
    (none_read_so (budget c.lines.reader) (budget c.next.new.self) c.next.new.self.line.items c.in-Ok-End.field-0 c.in-Ok-End.field-0-is c.in-Ok-End.ensures.ok) (c.in-Ok-End.ensures.counted_ok ∙ c.lines.invariant.faults)

pub returns-in-Ok-TooLong : goal.returns-in-Ok-TooLong
returns-in-Ok-TooLong g c = ending_long (ahead c.next.new.self) (g.S.Source.left c.next.new.source) c.lines.invariant.answering
    (past_read_so (budget c.next.new.self) c.next.new.self.line.items c.in-Ok-TooLong.field-0 c.in-Ok-TooLong.field-0-is c.in-Ok-TooLong.ensures.ok) (c.in-Ok-TooLong.ensures.spent c.in-Ok-TooLong.field-0-is)
    (c.in-Ok-TooLong.ensures.counted_ok ∙ c.lines.invariant.faults)

pub returns-in-Err : goal.returns-in-Err
returns-in-Err g c = ending_failed (g.S.Source.left c.next.new.source) c.lines.invariant.answering c.in-Err.ensures.err (c.in-Err.ensures.counted_err ∙ ap next_count c.lines.invariant.faults)

pub lines-preserved : goal.lines-preserved
lines-preserved g c =
    let line = line_read_so c.in-Ok-Line.field-0 c.in-Ok-Line.field-0-is c.line.ensures c.in-Ok-Line.ensures.ok in record {
      answering = answering_more (ahead c.next.new.self) (g.S.Source.left c.next.new.source) c.next.new.self.room c.lines.invariant.answering line c.in-Ok.ensures;
      faults = c.in-Ok-Line.ensures.counted_ok ∙ c.lines.invariant.faults;
    }

pub returns-in-Err-answer : goal.returns-in-Err-answer
returns-in-Err-answer g c =
    let line = line_read_so c.in-Ok-Line.field-0 c.in-Ok-Line.field-0-is c.line.ensures c.in-Ok-Line.ensures.ok in
    let due = line_next (ahead c.next.new.self) (g.S.Source.left c.next.new.source) c.next.new.self.room c.lines.invariant.answering.so_far line in
    ending_unsaid (scene (g.T.Tree.meaning c.answer.new.self.tree) c.answer.new.self.time) c.in-Err-answer.unsaid c.lines.invariant.answering due c.in-Err-answer.ensures
    (c.in-Ok-Line.ensures.counted_ok ∙ c.lines.invariant.faults) c.dry_end.ensures

pub returns-in-Ok-answer : goal.returns-in-Ok-answer
returns-in-Ok-answer g c =
    let last = last_read_so c.in-Ok-Last.field-0 c.in-Ok-Last.field-0-is c.line-in-Ok-Last.ensures c.in-Ok-Last.ensures.ok in
    ending_last (ahead c.next.new.self) (g.S.Source.left c.next.new.source) c.lines.invariant.answering last c.in-Ok-answer.ensures.0 (c.in-Ok-Last.ensures.counted_ok ∙ c.lines.invariant.faults)

pub returns-in-Err-answer-2 : goal.returns-in-Err-answer-2
returns-in-Err-answer-2 g c =
    let last = last_read_so c.in-Ok-Last.field-0 c.in-Ok-Last.field-0-is c.line-in-Ok-Last.ensures c.in-Ok-Last.ensures.ok in
    let due = (last_next (ahead c.next.new.self) (g.S.Source.left c.next.new.source) c.lines.invariant.answering.so_far last).next in
    ending_unsaid (scene (g.T.Tree.meaning c.answer-in-Ok-Last.new.self.tree) c.answer-in-Ok-Last.new.self.time) c.in-Err-answer-2.unsaid c.lines.invariant.answering due c.in-Err-answer-2.ensures
    (c.in-Ok-Last.ensures.counted_ok ∙ c.lines.invariant.faults) c.dry_end-in-Err-answer-2.ensures
