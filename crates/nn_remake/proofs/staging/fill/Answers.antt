use Rattle.std.proofs.Common.{◌∙◌, sym}
use Rattle.nn_remake.proofs.StagingLemmas.{work_made, work_added, filling_begun, filling_more, all_filled, none_left}
use Rattle.nn_small.proofs.FailureLemmas.{failed_once, failed_then}
use Rattle.nn_remake.proofs.staging.fill.Goals as goal

pub returns-in_err-make_file-clause-any_moment : goal.returns-in_err-make_file-clause-any_moment
returns-in_err-make_file-clause-any_moment g c = work_made c.in_err-make_file.ensures

pub piece-init : goal.piece-init
piece-init g c = record {
  saves = c.requires.saves;
  filling = filling_begun (λ tells. g.met.H.Host.lawful tells c.args.host.now) c.new-hasher.ensures c.in_ok-make_file.ensures;
}

pub piece-preserved : goal.piece-preserved
piece-preserved g c = record {
  saves = c.in_ok-next.ensures.kept;
  filling = filling_more c.piece.invariant.filling c.in_ok-next.ensures.piece c.update.ensures c.deref.ensures.value c.in_ok-append.ensures;
}

pub returns-in_err-append-clause-any_moment : goal.returns-in_err-append-clause-any_moment
returns-in_err-append-clause-any_moment g c = work_added c.piece.invariant.filling.work c.in_err-append.ensures

pub returns-clause-ok : goal.returns-clause-ok
returns-clause-ok g c = all_filled c.piece.invariant.filling (none_left _ c.next.new.out.items c.in_ok-next.ensures.len (sym c.in_ok-next.ensures.more ∙ c.if-branch.false))

pub returns-in_err-make_file-clause-still : goal.returns-in_err-make_file-clause-still
returns-in_err-make_file-clause-still g c = failed_once c.in_err-make_file.ensures

pub returns-in_err-append-clause-still : goal.returns-in_err-append-clause-still
returns-in_err-append-clause-still g c = failed_then c.piece.invariant.filling.counted c.piece.invariant.filling.still (failed_once c.in_err-append.ensures)
