use Rattle.std.proofs.Common.{◌∙◌}
use Rattle.nn_base.specs.declared.sub.Sub.TheVariants.{Current}
use Rattle.nn_remake.proofs.PublishingLemmas.{work_removing, work_after, written_after}
use Rattle.nn_small.proofs.FailureLemmas.{failed_then}
use Rattle.nn_remake.proofs.publishing.replace_image.Goals as goal

pub returns-clause-any_moment : goal.returns-clause-any_moment
returns-clause-any_moment g c = work_after c.in_ok-remove_image.ensures.ok
    (work_removing c.args.version.now (g.T.Tree.meaning c.args.tree.now) c.in_ok-remove_image.ensures.any_moment)
    c.write_image.ensures.any_moment

pub returns-clause-ok : goal.returns-clause-ok
returns-clause-ok g c = λ tells has.
    let removed = c.in_ok-remove_image.ensures.ok tells in
    written_after c.args.version.now (g.T.Tree.meaning c.args.tree.now) (g.H.Host.state c.write_image.new.host) _ removed (c.write_image.ensures.ok tells (removed.disk.subs Current ∙ has))

pub returns-clause-still : goal.returns-clause-still
returns-clause-still g c = failed_then c.in_ok-remove_image.ensures.cause.ok c.in_ok-remove_image.ensures.still c.write_image.ensures.still
