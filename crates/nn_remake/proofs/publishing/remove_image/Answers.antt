use Rattle.nn_remake.proofs.PublishingLemmas.{work_unnamed, work_removed, image_gone}
use Rattle.nn_small.proofs.FailureLemmas.{failed_once, answered_then}
use Rattle.nn_remake.proofs.publishing.remove_image.Goals as goal

pub returns-in_err-remove_file-clause-any_moment : goal.returns-in_err-remove_file-clause-any_moment
returns-in_err-remove_file-clause-any_moment g c = work_unnamed c.in_err-remove_file.ensures

pub returns-clause-any_moment : goal.returns-clause-any_moment
returns-clause-any_moment g c = work_removed (work_unnamed c.in_ok-remove_file.ensures) (λ tells. image_gone (c.in_ok-remove_file.ensures.effect tells).ok) c.remove_file-2.ensures

pub returns-in_err-remove_file-clause-still : goal.returns-in_err-remove_file-clause-still
returns-in_err-remove_file-clause-still g c = failed_once c.in_err-remove_file.ensures

pub returns-clause-still : goal.returns-clause-still
returns-clause-still g c = answered_then c.in_ok-remove_file.ensures (failed_once c.remove_file-2.ensures)
