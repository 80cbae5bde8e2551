use Rattle.std.proofs.Common.{subst}
use Rattle.nn_server.specs.declared.status.Status.{Status}
use Rattle.nn_top.specs.Closes.{Closing}
use Rattle.nn_top.proofs.DidLemmas.{generate_ended}
use Rattle.nn_top.proofs.run.run_generate.Goals as goal

pub returns : goal.returns
returns g c = generate_ended c.args.count c.say_script-end.result c.close.result c.say_script-end.ensures
    (subst (λ (s : Status). Closing g.H.Host.told (g.H.Host.state c.say_script-end.new.host) (g.H.Host.state c.close.new.host) s c.close.result) c.status.ensures c.close.ensures)
