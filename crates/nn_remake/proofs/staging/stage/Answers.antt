use Rattle.std.proofs.Common.{◌≡◌, List, ℕ, subst, rules}
use Rattle.nn_image.specs.Saving.{left}
use Rattle.nn_remake.specs.Publishing.{WasStaged, image_under}
use Rattle.nn_remake.proofs.StagingLemmas.{work_synced, all_staged}
use Rattle.nn_small.proofs.FailureLemmas.{failed_once, failed_then}
use Rattle.nn_remake.proofs.staging.stage.Goals as goal

pub returns-in_err-sync-clause-any_moment : goal.returns-in_err-sync-clause-any_moment
returns-in_err-sync-clause-any_moment g c = work_synced c.in_ok-digest.ensures.any_moment c.in_err-sync.ensures

pub returns-clause-ok : goal.returns-clause-ok
returns-clause-ok g c = λ tells has.
    let whole : left c.in_ok-saver.saver (g.T.Tree.meaning c.args.tree.now) (g.T.Tree.has c.args.tree.now) (g.T.Tree.place c.args.tree.now) ≡ image_under c.args.version.now c.args.id (g.T.Tree.meaning c.args.tree.now) = search rules in
    subst (λ (bytes : List ℕ). WasStaged c.args.id bytes c.args.i.0 (g.H.Host.state c.args.host.now) (g.H.Host.state c.sync.new.self)) whole
    (all_staged (c.in_ok-digest.ensures.ok tells has) (c.in_ok-sync.ensures.effect tells).ok)

pub returns-clause-any_moment : goal.returns-clause-any_moment
returns-clause-any_moment g c = work_synced c.in_ok-digest.ensures.any_moment c.in_ok-sync.ensures

pub returns-in_err-sync-clause-still : goal.returns-in_err-sync-clause-still
returns-in_err-sync-clause-still g c = failed_then c.in_ok-digest.ensures.cause c.in_ok-digest.ensures.still (failed_once c.in_err-sync.ensures)

pub returns-clause-still : goal.returns-clause-still
returns-clause-still g c = failed_then c.in_ok-digest.ensures.cause c.in_ok-digest.ensures.still (failed_once c.in_ok-sync.ensures)
