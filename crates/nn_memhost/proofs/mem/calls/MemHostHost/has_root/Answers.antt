use Rattle.std.proofs.Common.{ap}
use Rattle.nn_host.specs.Disk.{Reads}
use Rattle.nn_memhost.proofs.Looks.{reads_is}
use Rattle.nn_memhost.proofs.mem.calls.MemHostHost.has_root.Goals as goal

pub returns-clause-value : goal.returns-clause-value
returns-clause-value c = λ tells. ap (λ (r : Reads). r.root) (reads_is c.args.self.now c.args.i.0 c.index-dir.result.now c.requires c.index-dir.ensures)
