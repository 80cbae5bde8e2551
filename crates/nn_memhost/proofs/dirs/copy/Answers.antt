use Rattle.std.proofs.Common.{◌∙◌, ap, map, List}
use Rattle.nn_memhost.specs.declared.kept.KeptDir.{KeptDir}
use Rattle.nn_memhost.specs.Held.{held_of}
use Rattle.nn_memhost.proofs.DirsLemmas.{dir_copied}
use Rattle.nn_memhost.proofs.dirs.copy.Goals as goal

pub dirs-preserved : goal.dirs-preserved
dirs-preserved c =
    ap (λ (ds : List KeptDir). map held_of ds) c.in_ok-push.ensures.items
    ∙ dir_copied c.args.dirs.now c.dirs.dir-index c.dirs.copies.items c.dir-item.result c.in_ok-copy_of.field-0 c.dirs.invariant c.dirs-test.true c.dir-item.is c.in_ok-copy_of.ensures
