use Rattle.std.proofs.lemmas.Result.{on_ok_weaker, on_err_weaker}
use Rattle.nn_host.specs.Disk.{Held}
use Rattle.nn_memhost.specs.Content.{Content}
use Rattle.nn_memhost.specs.Held.{given}
use Rattle.nn_memhost.proofs.DirsLemmas.{kept_at-set, kept_at-same}
use Rattle.nn_memhost.proofs.dirs.give_at.Goals as goal

pub returns-clause-ok : goal.returns-clause-ok
returns-clause-ok c = on_ok_weaker c.give.result
    (λ is. kept_at-set c.args.dirs.now.items c.args.i.0 c.index_mut-dir.result.now c.give.new.self (λ (h : Held Content). given c.args.sub c.args.name c.args.bytes.items h) c.requires c.index_mut-dir.ensures.value is)
    c.give.ensures.ok

pub returns-clause-err : goal.returns-clause-err
returns-clause-err c = on_err_weaker c.give.result
    (λ is. kept_at-same c.args.dirs.now.items c.args.i.0 c.index_mut-dir.result.now c.give.new.self c.requires c.index_mut-dir.ensures.value is)
    c.give.ensures.err
