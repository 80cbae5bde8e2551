use Rattle.nn_restore.proofs.MakingLemmas.{makes_back}
use Rattle.nn_restore.proofs.restoring.make_back.Goals as goal

pub returns-in-Ok : goal.returns-in-Ok
returns-in-Ok g c = record {
  makes = makes_back c.args.fresh.dir.0 c.args.journal.now c.take_back.new.self c.take_back.ensures.live c.take_back.ensures.holders c.last.result c.last.ensures c.in-Ok.ensures.any_moment (λ tells. (c.in-Ok.ensures.ok tells).disk) c.in-Ok.ensures.cause c.take_back.ensures.kept;
}
