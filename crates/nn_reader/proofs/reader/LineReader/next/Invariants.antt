use Rattle.std.proofs.Common.{◌≡◌, ◌++◌}
use Rattle.nn_reader.specs.Reader.{ahead, budget, HasRead}
use Rattle.nn_reader.proofs.reader.LineReader.next.Given as goal

abbrev pub invariant-parts : goal.invariant-parts
invariant-parts g l = record {
  read : HasRead g.S.Source.told (ahead l.fn.self ++ g.S.Source.left l.fn.source) (ahead l.self ++ g.S.Source.left l.source) (budget l.fn.self) (budget l.self) l.self.line.items;
  faults : g.S.Source.faults l.source ≡ g.S.Source.faults l.fn.source;
}

abbrev pub decreases-parts : goal.decreases-parts
decreases-parts g l = l.self.room
