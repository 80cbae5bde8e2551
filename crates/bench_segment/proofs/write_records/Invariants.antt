use Rattle.std.proofs.Common.{◌≤◌}
use Rattle.std.specs.Prelude.{vec_capacity}
use Rattle.bench_segment.proofs.write_records.Given as goal

-- the room for a record stays
abbrev pub invariant-records : goal.invariant-records
invariant-records l = 65536 ≤ vec_capacity l.out
