use Rattle.nn_remake.proofs.PublishingLemmas.{work_staged, work_summed, work_named, was_written, disk_ready, reads_ready, still_there}
use Rattle.nn_small.proofs.FailureLemmas.{failed_once, failed_then}
use Rattle.nn_remake.proofs.publishing.write_image.Goals as goal

pub returns-in_err-digest-clause-any_moment : goal.returns-in_err-digest-clause-any_moment
returns-in_err-digest-clause-any_moment g c = work_staged c.args.version.now c.args.id (g.T.Tree.meaning c.args.tree.now) c.requires.none c.in_err-digest.ensures.any_moment

pub returns-in_err-write_digest-clause-any_moment : goal.returns-in_err-write_digest-clause-any_moment
returns-in_err-write_digest-clause-any_moment g c = work_summed c.args.version.now c.args.id (g.T.Tree.meaning c.args.tree.now) c.requires.none c.in_ok-digest.ensures.any_moment c.in_err-write_digest.ensures.any_moment

pub returns-in_err-rename_file-clause-any_moment : goal.returns-in_err-rename_file-clause-any_moment
returns-in_err-rename_file-clause-any_moment g c = work_named _ c.in_ok-digest.ensures.image
    (λ tells. (g.met.H.Host.lawful tells c.write_digest.new.host).disks c.args.i.0)
    (λ tells has. let staged = c.in_ok-digest.ensures.ok tells has in disk_ready c.in_ok-digest.ensures.digest staged (c.in_ok-write_digest.ensures.ok tells (still_there has staged)))
    (work_summed c.args.version.now c.args.id (g.T.Tree.meaning c.args.tree.now) c.requires.none c.in_ok-digest.ensures.any_moment c.in_ok-write_digest.ensures.any_moment)
    c.in_err-rename_file.ensures

pub returns-clause-any_moment : goal.returns-clause-any_moment
returns-clause-any_moment g c = work_named _ c.in_ok-digest.ensures.image
    (λ tells. (g.met.H.Host.lawful tells c.write_digest.new.host).disks c.args.i.0)
    (λ tells has. let staged = c.in_ok-digest.ensures.ok tells has in disk_ready c.in_ok-digest.ensures.digest staged (c.in_ok-write_digest.ensures.ok tells (still_there has staged)))
    (work_summed c.args.version.now c.args.id (g.T.Tree.meaning c.args.tree.now) c.requires.none c.in_ok-digest.ensures.any_moment c.in_ok-write_digest.ensures.any_moment)
    c.in_ok-rename_file.ensures

pub returns-clause-ok : goal.returns-clause-ok
returns-clause-ok g c = λ tells has.
    let staged = c.in_ok-digest.ensures.ok tells has in
    let written = c.in_ok-write_digest.ensures.ok tells (still_there has staged) in
    was_written _ c.in_ok-digest.ensures.image (disk_ready c.in_ok-digest.ensures.digest staged written) (reads_ready c.in_ok-digest.ensures.digest staged written) (c.in_ok-rename_file.ensures.effect tells).ok

pub returns-in_err-write_digest-clause-still : goal.returns-in_err-write_digest-clause-still
returns-in_err-write_digest-clause-still g c = failed_then c.in_ok-digest.ensures.cause c.in_ok-digest.ensures.still c.in_err-write_digest.ensures.still

pub returns-in_err-rename_file-clause-still : goal.returns-in_err-rename_file-clause-still
returns-in_err-rename_file-clause-still g c = failed_then c.in_ok-digest.ensures.cause c.in_ok-digest.ensures.still (failed_then c.in_ok-write_digest.ensures.cause.ok c.in_ok-write_digest.ensures.still (failed_once c.in_err-rename_file.ensures))

pub returns-clause-still : goal.returns-clause-still
returns-clause-still g c = failed_then c.in_ok-digest.ensures.cause c.in_ok-digest.ensures.still (failed_then c.in_ok-write_digest.ensures.cause.ok c.in_ok-write_digest.ensures.still (failed_once c.in_ok-rename_file.ensures))
