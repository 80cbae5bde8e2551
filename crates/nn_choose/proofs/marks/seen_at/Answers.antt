use Rattle.std.proofs.Common.{refl, sym, subst}
use Rattle.nn_host.proofs.RunsLemmas.{looked_once}
use Rattle.nn_host.proofs.WorkLemmas.{still_once}
use Rattle.nn_chain.specs.Folder.{folder_at}
use Rattle.nn_choose.specs.Picking.{IsSeen}
use Rattle.nn_choose.proofs.LookingLemmas.{answered_looks, failed_looks}
use Rattle.nn_choose.proofs.MarksLemmas.{seen_is}
use Rattle.nn_choose.proofs.marks.seen_at.Goals as goal

pub returns-in-Ok-clause-ok : goal.returns-in-Ok-clause-ok
returns-in-Ok-clause-ok g c = λ tells. subst (IsSeen (folder_at ((g.H.Host.state c.args.host.now).reads c.args.i.0) c.args.sub)) (sym c.unwrap_or.ensures)
    (seen_is (folder_at ((g.H.Host.state c.args.host.now).reads c.args.i.0) c.args.sub) c.seen_read.result (c.in-Ok.ensures.value tells) refl c.seen_read.ensures.found c.seen_read.ensures.only)

pub returns-in-Ok-clause-kept : goal.returns-in-Ok-clause-kept
returns-in-Ok-clause-kept g c = answered_looks (looked_once c.in-Ok.ensures.call) (still_once c.in-Ok.ensures.call)

pub returns-in-Err-clause-kept : goal.returns-in-Err-clause-kept
returns-in-Err-clause-kept g c = failed_looks c.requires (looked_once c.in-Err.ensures.call) (still_once c.in-Err.ensures.call)
