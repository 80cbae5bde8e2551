use Rattle.std.proofs.Common.{inl, ◌∙◌}
use Rattle.nn_host.proofs.WorkLemmas.{work_refl}
use Rattle.nn_remake.proofs.MakingLemmas.{bare_fresh, work_began, began, until_imaged, until_seen, until_versioned, all_made}
use Rattle.nn_remake.proofs.LeftLemmas.{fresh_or_made_left}
use Rattle.nn_remake.proofs.making.make.Goals as goal

pub returns-in_err-text-clause-any_moment : goal.returns-in_err-text-clause-any_moment
returns-in_err-text-clause-any_moment g c = work_refl (λ tells. inl (bare_fresh _ ((g.met.H.Host.lawful tells c.args.host.now).disks c.args.at.dir.0) (c.requires.bare tells)))

pub returns-in_err-make_sub-clause-any_moment : goal.returns-in_err-make_sub-clause-any_moment
returns-in_err-make_sub-clause-any_moment g c = work_began c.args.version.now c.args.id (g.T.Tree.meaning c.args.tree.now) (λ tells. g.met.H.Host.lawful tells c.args.host.now) c.requires.bare c.in_err-make_sub.ensures

pub write_image-requires-clause-none : goal.write_image-requires-clause-none
write_image-requires-clause-none g c = λ tells. (began c.args.version.now c.args.id (g.T.Tree.meaning c.args.tree.now) (λ tells. g.met.H.Host.lawful tells c.args.host.now) c.requires.bare c.in_ok-make_sub.ensures tells).image_files.image

pub returns-in_err-write_image-clause-any_moment : goal.returns-in_err-write_image-clause-any_moment
returns-in_err-write_image-clause-any_moment g c =
    until_imaged c.args.version.now c.args.id (g.T.Tree.meaning c.args.tree.now) (λ tells. g.met.H.Host.lawful tells c.args.host.now) c.requires.bare c.in_ok-make_sub.ensures
    c.in_err-write_image.ensures.any_moment

pub returns-in_err-write_seen-clause-any_moment : goal.returns-in_err-write_seen-clause-any_moment
returns-in_err-write_seen-clause-any_moment g c =
    until_seen c.args.version.now c.args.id (g.T.Tree.meaning c.args.tree.now) (λ tells. g.met.H.Host.lawful tells c.args.host.now) c.requires.bare c.in_ok-make_sub.ensures
    c.in_ok-write_image.ensures.ok c.in_ok-write_image.ensures.any_moment c.in_err-write_seen.ensures.any_moment

pub returns-in_err-write_small-clause-any_moment : goal.returns-in_err-write_small-clause-any_moment
returns-in_err-write_small-clause-any_moment g c =
    until_versioned c.args.version.now c.args.id (g.T.Tree.meaning c.args.tree.now) (λ tells. g.met.H.Host.lawful tells c.args.host.now) c.requires.bare c.in_ok-make_sub.ensures
    c.in_ok-write_image.ensures.ok c.in_ok-write_image.ensures.any_moment c.in_ok-write_seen.ensures.ok c.in_ok-write_seen.ensures.any_moment
    (c.deref.ensures.value ∙ c.in_ok-text.ensures.ok) c.in_err-write_small.ensures.any_moment

pub returns-clause-any_moment : goal.returns-clause-any_moment
returns-clause-any_moment g c =
    until_versioned c.args.version.now c.args.id (g.T.Tree.meaning c.args.tree.now) (λ tells. g.met.H.Host.lawful tells c.args.host.now) c.requires.bare c.in_ok-make_sub.ensures
    c.in_ok-write_image.ensures.ok c.in_ok-write_image.ensures.any_moment c.in_ok-write_seen.ensures.ok c.in_ok-write_seen.ensures.any_moment
    (c.deref.ensures.value ∙ c.in_ok-text.ensures.ok) c.in_ok-write_small.ensures.any_moment

pub returns-clause-ok : goal.returns-clause-ok
returns-clause-ok g c =
    all_made c.args.version.now c.args.id (g.T.Tree.meaning c.args.tree.now) (λ tells. g.met.H.Host.lawful tells c.args.host.now) c.requires.bare c.in_ok-make_sub.ensures
    c.in_ok-write_image.ensures.ok c.in_ok-write_image.ensures.any_moment c.in_ok-write_seen.ensures.ok c.in_ok-write_seen.ensures.any_moment
    (c.deref.ensures.value ∙ c.in_ok-text.ensures.ok) c.in_ok-write_small.ensures.ok

pub returns-in_err-text-clause-left : goal.returns-in_err-text-clause-left
returns-in_err-text-clause-left g c = fresh_or_made_left c.args.version.now c.args.id (g.T.Tree.meaning c.args.tree.now)

pub returns-in_err-make_sub-clause-left : goal.returns-in_err-make_sub-clause-left
returns-in_err-make_sub-clause-left g c = fresh_or_made_left c.args.version.now c.args.id (g.T.Tree.meaning c.args.tree.now)

pub returns-in_err-write_image-clause-left : goal.returns-in_err-write_image-clause-left
returns-in_err-write_image-clause-left g c = fresh_or_made_left c.args.version.now c.args.id (g.T.Tree.meaning c.args.tree.now)

pub returns-in_err-write_seen-clause-left : goal.returns-in_err-write_seen-clause-left
returns-in_err-write_seen-clause-left g c = fresh_or_made_left c.args.version.now c.args.id (g.T.Tree.meaning c.args.tree.now)

pub returns-in_err-write_small-clause-left : goal.returns-in_err-write_small-clause-left
returns-in_err-write_small-clause-left g c = fresh_or_made_left c.args.version.now c.args.id (g.T.Tree.meaning c.args.tree.now)

pub returns-clause-left : goal.returns-clause-left
returns-clause-left g c = fresh_or_made_left c.args.version.now c.args.id (g.T.Tree.meaning c.args.tree.now)
