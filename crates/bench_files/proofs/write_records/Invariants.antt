use Rattle.std.proofs.Common.{◌≡◌}
use Rattle.bench_files.proofs.write_records.Given as goal

-- the one directory stays
abbrev pub invariant-records : goal.invariant-records
invariant-records g l = (g.H.Host.state l.host).count ≡ 1
