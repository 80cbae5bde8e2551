use Rattle.std.proofs.Common.{ℕ, ◌-◌, List, nat_lt, length, drop, sym, subst, arith}
use Rattle.std.specs.List.{slice_range}
use Rattle.std.proofs.lemmas.List.{take_at}
use Rattle.nn_reader.specs.Reader.{Refilled}
use Rattle.nn_reader.proofs.ReaderLemmas.{refilled}
use Rattle.nn_reader.proofs.reader.LineReader.refill.Goals as goal

pub returns-clause-ok : goal.returns-clause-ok
returns-clause-ok g c =
    let old = c.args.self.now.chunk in
    let chunk = c.take_front.new.chunk in
    let count = c.in_ok-count.count in
    let room = c.args.self.now.room in
    let before = g.S.Source.left c.args.source.now in
    let left = g.S.Source.left c.take_front.new.source in
    subst (λ (x : List ℕ). Refilled g.S.Source.told (nat_lt 0 count) before left (slice_range x 0 count) room (room - count)) (sym (take_at chunk (drop (length chunk) old.items) old.len (omega arith)))
    (refilled chunk count room
    (λ tells. c.in_ok-count.ensures.ok tells)
    (λ tells zero. c.in_ok-count.ensures.none tells (omega arith) zero)
    (omega (arith, c.in_ok-count.ensures.most))
    (omega (arith, c.in_ok-count.ensures.most)))
