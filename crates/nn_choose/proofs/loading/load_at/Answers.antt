use Rattle.nn_base.specs.DirSets.{has}
use Rattle.nn_choose.proofs.LookingLemmas.{answered_looks}
use Rattle.nn_choose.proofs.BetterLemmas.{alone_has}
use Rattle.nn_choose.proofs.loading.load_at.Goals as goal

pub returns-in-Ok-clause-kept : goal.returns-in-Ok-clause-kept
returns-in-Ok-clause-kept g c = answered_looks c.in-Ok.ensures.kept c.in-Ok.ensures.any_moment

pub returns-in-Ok-clause-one : goal.returns-in-Ok-clause-one
returns-in-Ok-clause-one g c =
    let alone = alone_has (has c.with.result) (has c.none.result) c.args.i.0 c.with.ensures c.none.ensures in
    (alone.0, alone.1)
