use Rattle.std.proofs.Common.{sym, ◌∙◌, ap, arith}
use Rattle.std.specs.List.{slice_range}
use Rattle.nn_reader.proofs.ReaderLemmas.{part_ended, part_whole}
use Rattle.nn_reader.proofs.reader.LineReader.read_ahead.Goals as goal

pub returns-in-Some-clause-read : goal.returns-in-Some-clause-read
returns-in-Some-clause-read c =
    let at = c.args.self.now.at in
    let end = c.args.self.now.end in
    part_ended c.args.self.now.chunk.items _ at end c.in-Some.count c.args.self.now.line.items _ (ap (λ x. slice_range x at end) c.deref.ensures.value) (sym c.newline_in.ensures ∙ c.in-Some.is) (omega arith) (omega arith) c.keep.ensures.line

pub returns-in-None-clause-read : goal.returns-in-None-clause-read
returns-in-None-clause-read c =
    let at = c.args.self.now.at in
    let end = c.args.self.now.end in
    part_whole c.args.self.now.chunk.items _ at end c.args.self.now.line.items _ (ap (λ x. slice_range x at end) c.deref.ensures.value) (sym c.newline_in.ensures ∙ c.in-None.is) c.keep-in-None.ensures.line
