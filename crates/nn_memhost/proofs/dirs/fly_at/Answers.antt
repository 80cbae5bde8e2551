use Rattle.std.proofs.lemmas.Result.{on_ok_weaker}
use Rattle.nn_host.specs.Disk.{Held}
use Rattle.nn_memhost.specs.Asked.{call_of}
use Rattle.nn_memhost.specs.Content.{Content}
use Rattle.nn_memhost.specs.Flight.{kept_flight}
use Rattle.nn_memhost.proofs.DirsLemmas.{kept_at-set}
use Rattle.nn_memhost.proofs.dirs.fly_at.Goals as goal

pub returns-clause-ok : goal.returns-clause-ok
returns-clause-ok c = on_ok_weaker c.fly.result
    (λ is. kept_at-set c.args.dirs.now.items c.args.i.0 c.index_mut-dir.result.now c.fly.new.dir (λ (h : Held Content). kept_flight c.args.done (call_of c.args.asked.now) h) c.requires c.index_mut-dir.ensures.value is)
    c.fly.ensures
