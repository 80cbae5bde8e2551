use Rattle.std.proofs.Common.{refl}
use Rattle.nn_serve.specs.declared.ending.RunEnd.TheVariants.{Memory}
use Rattle.nn_serve.proofs.OpeningLemmas.{out_unbegun}
use Rattle.nn_serve.proofs.ServeLemmas.{came_early}
use Rattle.nn_serve.proofs.whole_run.run.Goals as goal

pub returns-in-Err : goal.returns-in-Err
returns-in-Err g c = came_early c.args.at (g.S.Source.left c.args.source.now) (g.S.Source.faults c.args.source.now) (g.H.Host.state c.args.host.now) (g.H.Host.state c.args.host.now) Memory refl (out_unbegun c.args.at (g.H.Host.state c.args.host.now))

pub returns-in-Err-begin : goal.returns-in-Err-begin
returns-in-Err-begin g c = came_early c.args.at (g.S.Source.left c.args.source.now) (g.S.Source.faults c.args.source.now) (g.H.Host.state c.args.host.now) (g.H.Host.state c.begin.new.host) c.in-Err-begin.end c.in-Err-begin.ensures.early c.in-Err-begin.ensures.err

pub returns : goal.returns
returns g c = c.go_on.ensures c.args.at (g.H.Host.state c.args.host.now) c.in-Ok-begin.ensures.time c.in-Ok-begin.ensures.ok
