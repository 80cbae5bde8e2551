use Rattle.nn_host.specs.Disk.{Held}
use Rattle.nn_memhost.specs.Content.{Content}
use Rattle.nn_memhost.specs.Held.{rootless}
use Rattle.nn_memhost.proofs.DirsLemmas.{kept_at-set}
use Rattle.nn_memhost.proofs.dirs.unroot_at.Goals as goal

pub returns-clause-value : goal.returns-clause-value
returns-clause-value c = kept_at-set c.args.dirs.now.items c.args.i.0 c.index_mut-dir.result.now c.unroot.new.self (λ (h : Held Content). rootless) c.requires c.index_mut-dir.ensures.value c.unroot.ensures
