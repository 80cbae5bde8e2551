use Rattle.std.proofs.Common.{arith}
use Rattle.nn_memhost.specs.Mem.{start_of}
use Rattle.nn_memhost.proofs.PastLemmas.{trace_len}
use Rattle.nn_memhost.proofs.mem.MemHost.calls.Goals as goal

pub returns : goal.returns
returns c = omega (arith, c.len.ensures, c.args.self.now.calls.ok.0, trace_len (start_of c.args.self.now) c.args.self.now.calls.items)
