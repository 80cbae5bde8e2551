use Rattle.std.proofs.Common.{subst}
use Rattle.nn_server.specs.declared.status.Status.{Status}
use Rattle.nn_top.specs.Closes.{Closing}
use Rattle.nn_top.proofs.DidLemmas.{format_ended}
use Rattle.nn_top.proofs.run.run_format.Goals as goal

pub returns : goal.returns
returns g c = format_ended c.args.cluster.now c.args.namespace c.format-end.result c.close.result (λ tells. g.met.H.Host.lawful tells c.args.host.now) c.format-end.ensures
    (subst (λ (s : Status). Closing g.H.Host.told (g.H.Host.state c.format-end.new.host) (g.H.Host.state c.close.new.host) s c.close.result) c.status.ensures c.close.ensures)
