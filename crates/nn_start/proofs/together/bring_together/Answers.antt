use Rattle.std.proofs.Common.{◌∙◌}
use Rattle.nn_base.specs.DirSets.{has}
use Rattle.nn_host.specs.Moments.{disk_at}
use Rattle.nn_start.specs.Bringing.{AreReady}
use Rattle.nn_start.specs.Publishing.{AreToPublish}
use Rattle.nn_start.proofs.KeepLemmas.{young_seven, chosen_own}
use Rattle.nn_start.proofs.PublishLemmas.{fits_by_seven}
use Rattle.nn_start.proofs.TogetherLemmas.{kept_more, counts_moved, to_publish_now, all_together}
use Rattle.nn_start.proofs.together.bring_together.Goals as goal

pub returns-in_err-bay-clause-kept : goal.returns-in_err-bay-clause-kept
returns-in_err-bay-clause-kept g c =
    let it = c.in_ok-aim.field-0.aim in
    kept_more c.in_ok-aim.ensures.kept c.open.ensures.any_moment.count (λ shared s. AreReady shared (has it.chosen) (has it.level) it.saved it.version it.last s) c.in_err-bay.ensures.kept
    (λ tells sound shared first. (c.in_ok-aim.ensures.ready tells sound shared first).aim)
    (λ tells sound shared first. (c.in_ok-aim.ensures.ready tells sound shared first).ready)
    (λ tells sound shared first. (c.in_ok-aim.ensures.ready tells sound shared first).counts)

pub returns-in_err-publish_all-clause-kept : goal.returns-in_err-publish_all-clause-kept
returns-in_err-publish_all-clause-kept g c =
    let it = c.in_ok-aim.field-0.aim in
    let opened = c.open.ensures.any_moment.count in
    let same = c.in_ok-bay.ensures.quiet.each.count in
    kept_more (kept_more c.in_ok-aim.ensures.kept opened (λ shared s. AreReady shared (has it.chosen) (has it.level) it.saved it.version it.last s) c.in_ok-bay.ensures.kept
    (λ tells sound shared first. (c.in_ok-aim.ensures.ready tells sound shared first).aim)
    (λ tells sound shared first. (c.in_ok-aim.ensures.ready tells sound shared first).ready)
    (λ tells sound shared first. (c.in_ok-aim.ensures.ready tells sound shared first).counts))
    (same ∙ opened) (λ shared s. AreToPublish shared (has it.chosen) it.version it.last (g.T.Tree.meaning it.tree) s) c.in_err-publish_all.ensures.kept
    (λ tells sound shared first. (c.in_ok-aim.ensures.ready tells sound shared first).aim)
    (λ tells sound shared first.
    let ready = c.in_ok-aim.ensures.ready tells sound shared first in
    to_publish_now same c.in_ok-bay.ensures.left (g.H.Host.state c.args.host.now) sound.opened.book shared ready (c.in_ok-bay.ensures.brought tells shared ready.aim ready.ready))
    (λ tells sound shared first run leaders counts. counts_moved c.in_ok-bay.ensures.left ((c.in_ok-aim.ensures.ready tells sound shared first).counts run leaders counts))

pub returns-clause-kept : goal.returns-clause-kept
returns-clause-kept g c =
    let it = c.in_ok-aim.field-0.aim in
    let opened = c.open.ensures.any_moment.count in
    let same = c.in_ok-bay.ensures.quiet.each.count in
    kept_more (kept_more c.in_ok-aim.ensures.kept opened (λ shared s. AreReady shared (has it.chosen) (has it.level) it.saved it.version it.last s) c.in_ok-bay.ensures.kept
    (λ tells sound shared first. (c.in_ok-aim.ensures.ready tells sound shared first).aim)
    (λ tells sound shared first. (c.in_ok-aim.ensures.ready tells sound shared first).ready)
    (λ tells sound shared first. (c.in_ok-aim.ensures.ready tells sound shared first).counts))
    (same ∙ opened) (λ shared s. AreToPublish shared (has it.chosen) it.version it.last (g.T.Tree.meaning it.tree) s) c.in_ok-publish_all.ensures.kept
    (λ tells sound shared first. (c.in_ok-aim.ensures.ready tells sound shared first).aim)
    (λ tells sound shared first.
    let ready = c.in_ok-aim.ensures.ready tells sound shared first in
    to_publish_now same c.in_ok-bay.ensures.left (g.H.Host.state c.args.host.now) sound.opened.book shared ready (c.in_ok-bay.ensures.brought tells shared ready.aim ready.ready))
    (λ tells sound shared first run leaders counts. counts_moved c.in_ok-bay.ensures.left ((c.in_ok-aim.ensures.ready tells sound shared first).counts run leaders counts))

pub returns-clause-together : goal.returns-clause-together
returns-clause-together g c = λ tells sound shared first.
    let ready = c.in_ok-aim.ensures.ready tells sound shared first in
    let same = c.in_ok-bay.ensures.quiet.each.count in
    let brought = c.in_ok-bay.ensures.brought tells shared ready.aim ready.ready in
    all_together same c.in_ok-bay.ensures.left (g.H.Host.state c.args.host.now) sound.opened.book shared ready brought (g.H.Host.state c.publish_all.new.host) c.open.ensures.any_moment.count c.in_ok-publish_all.ensures.left
    (c.in_ok-publish_all.ensures.published tells shared ready.aim (to_publish_now same c.in_ok-bay.ensures.left (g.H.Host.state c.args.host.now) sound.opened.book shared ready brought))
    (c.in_ok-publish_all.ensures.beside tells) (c.in_ok-aim.ensures.ok tells).greatest (c.in_ok-aim.ensures.level tells)

pub returns-clause-stays : goal.returns-clause-stays
returns-clause-stays g c = λ tells. chosen_own (g.H.Host.state c.args.host.now) (g.H.Host.state c.open.new.host) (g.H.Host.state c.bring_up.new.host) (g.H.Host.state c.publish_all.new.host) (c.in_ok-aim.ensures.reopened tells) c.in_ok-bay.ensures.left (c.in_ok-publish_all.ensures.beside tells)

pub returns-clause-fits : goal.returns-clause-fits
returns-clause-fits g c = λ tells k it is. fits_by_seven it (disk_at (g.H.Host.state c.bring_up.new.host) k) (disk_at (g.H.Host.state c.publish_all.new.host) k) (young_seven c.in_ok-aim.field-0.aim.last (disk_at (g.H.Host.state c.bring_up.new.host) k) (disk_at (g.H.Host.state c.publish_all.new.host) k) (c.in_ok-publish_all.ensures.beside tells k)) (c.in_ok-bay.ensures.fits tells k it is)
