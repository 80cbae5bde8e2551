use Rattle.std.proofs.Common.{refl, sym, subst, ◌∙◌}
use Rattle.nn_image.specs.Assembly.{listing}
use Rattle.nn_image.specs.Building.{AreOpen}
use Rattle.nn_image.proofs.HalfLemmas.{level_in, no_level_in, held}
use Rattle.nn_image.proofs.half.enter.Goals as goal

pub returns-in_default-clause-tree : goal.returns-in_default-clause-tree
returns-in_default-clause-tree c = λ inode entries id dir all spelled err.
    c.in_default.ensures inode entries id dir all spelled

pub returns-in_ok-push-clause-ok : goal.returns-in_ok-push-clause-ok
returns-in_ok-push-clause-ok c = λ has place levels path inode entries id dir all spelled are is.
    let l = c.in-Some.ensures inode entries id dir all spelled in
    let ids = (listing inode entries).children in
    let now = held has place c.args.dir.now _ path ids is refl refl refl refl l.ids l.children in
    (subst (AreOpen has place c.push.new.self.items) (sym (level_in inode.kind path ids levels (dir ∙ c.if-is_dir.true))) (_, c.args.dirs.now.items, c.in_ok-push.ensures.items, now, are), l.rest, l.entries)

pub returns-else-is_dir-clause-ok : goal.returns-else-is_dir-clause-ok
returns-else-is_dir-clause-ok c = λ has place levels path inode entries id dir all spelled are is.
    let l = c.in-Some.ensures inode entries id dir all spelled in
    let ids = (listing inode entries).children in
    (subst (AreOpen has place c.args.dirs.now.items) (sym (no_level_in inode.kind path ids levels (dir ∙ c.if-is_dir.false))) are, l.rest, l.entries)
