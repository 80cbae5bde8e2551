-- The host keeps its directory.
use Rattle.std.proofs.Common.{◌<◌}
use Rattle.nn_memhost.specs.Mem.{mem_state}
use Rattle.bench_memhost.proofs.work.Given as goal

abbrev pub invariant-calls : goal.invariant-calls
invariant-calls l = 0 < (mem_state l.host).count
