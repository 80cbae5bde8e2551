use Rattle.std.proofs.Common.{◌∙◌, ap}
use Rattle.nn_host.specs.Disk.{Reads}
use Rattle.nn_memhost.proofs.Looks.{reads_is}
use Rattle.nn_memhost.proofs.mem.calls.MemHostHost.has_sub.Goals as goal

pub returns-clause-value : goal.returns-clause-value
returns-clause-value c = λ tells. c.has_sub-there.ensures ∙ ap (λ (r : Reads). r.has c.args.sub) (reads_is c.args.self.now c.args.i.0 c.index-dir.result.now c.requires c.index-dir.ensures)
