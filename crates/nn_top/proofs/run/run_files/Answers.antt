use Rattle.std.proofs.Common.{subst}
use Rattle.nn_server.specs.declared.status.Status.{Status}
use Rattle.nn_top.specs.Closes.{Closing}
use Rattle.nn_top.proofs.FillLemmas.{fill_did}
use Rattle.nn_top.proofs.run.run_files.Goals as goal

pub returns : goal.returns
returns g c = fill_did c.run_generated-end.result c.close.result (λ tells. g.met.H.Host.lawful tells c.args.host.now) (λ tells. g.met.H.Host.lawful tells c.close.new.host) c.run_generated-end.ensures
    (subst (λ (s : Status). Closing g.H.Host.told (g.H.Host.state c.run_generated-end.new.host) (g.H.Host.state c.close.new.host) s c.close.result) c.status.ensures c.close.ensures)
