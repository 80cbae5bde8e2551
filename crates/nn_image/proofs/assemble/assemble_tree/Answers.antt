use Rattle.std.proofs.Common.{◌≡◌, sym, ap, ◌∙◌}
use Rattle.std.proofs.lemmas.Bool.{false≢true}
use Rattle.nn_message.specs.Frame.{Sections, sections_of}
use Rattle.nn_image.specs.Building.{entries_text}
use Rattle.nn_image.proofs.EndLemmas.{uncounted}
use Rattle.nn_image.proofs.assemble.assemble_tree.Goals as goal

pub tree_of-requires-clause-listed : goal.tree_of-requires-clause-listed
unfolding sections_of
tree_of-requires-clause-listed g c = let content = c.requires.whole.0 in (content.dir_entries, c.requires.whole.1.dir_entries, ap (λ (s : Sections). s.directories) (sym c.requires.whole.2))

pub returns-then-is_counted-clause-ok : goal.returns-then-is_counted-clause-ok
unfolding sections_of
returns-then-is_counted-clause-ok g c = λ content is e.
    let heads = c.in-Some.ensures.some content is (ap (λ (s : Sections). s.info) (sym e)) (ap (λ (s : Sections). s.strings) (sym e)) (ap (λ (s : Sections). s.inodes) (sym e)) in
    let directories : c.args.directories.now ≡ entries_text content.dir_entries = ap (λ (s : Sections). s.directories) (sym e) in
    let counted = (c.is_counted.ensures content is heads).0 c.if-is_counted.true in
    c.tree_of.ensures.ok content is heads directories counted

pub returns-then-is_counted-clause-tree : goal.returns-then-is_counted-clause-tree
unfolding sections_of
returns-then-is_counted-clause-tree g c = λ err content is e.
    let heads = c.in-Some.ensures.some content is (ap (λ (s : Sections). s.info) (sym e)) (ap (λ (s : Sections). s.strings) (sym e)) (ap (λ (s : Sections). s.inodes) (sym e)) in
    let directories : c.args.directories.now ≡ entries_text content.dir_entries = ap (λ (s : Sections). s.directories) (sym e) in
    let counted = (c.is_counted.ensures content is heads).0 c.if-is_counted.true in
    c.tree_of.ensures.tree content is heads directories counted err

pub returns-else-is_counted-clause-tree : goal.returns-else-is_counted-clause-tree
unfolding sections_of
returns-else-is_counted-clause-tree g c = λ err content is e.
    let heads = c.in-Some.ensures.some content is (ap (λ (s : Sections). s.info) (sym e)) (ap (λ (s : Sections). s.strings) (sym e)) (ap (λ (s : Sections). s.inodes) (sym e)) in
    uncounted content is (λ counted. false≢true (sym c.if-is_counted.false ∙ (c.is_counted.ensures content is heads).1 counted))
