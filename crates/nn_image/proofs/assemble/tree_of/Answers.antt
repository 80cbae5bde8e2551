use Rattle.std.proofs.Common.{◌≡◌, length, true, false, Some, sym, ap, subst, ◌∙◌}
use Rattle.std.specs.Prelude.{Err}
use Rattle.std.proofs.lemmas.List.{length-map}
use Rattle.nn_image.specs.declared.unmade.Unmade.TheVariants.{Tree}
use Rattle.nn_message.specs.Messages.{Text}
use Rattle.nn_image.specs.Assembly.{table_of, add_all, namespace_of}
use Rattle.nn_image.specs.Building.{IsNoted}
use Rattle.nn_image.proofs.AddingLemmas.{no_table, not_added, not_whole, not_given, all_added}
use Rattle.nn_image.proofs.EndLemmas.{is_the_table, is_so_whole, is_not_whole, all_given}
use Rattle.nn_image.proofs.assemble.tree_of.Goals as goal

pub returns-in-Err-clause-tree : goal.returns-in-Err-clause-tree
returns-in-Err-clause-tree g c = λ content is heads directories counted err.
    let same : c.in-Err.unmade ≡ Tree = cc in
    no_table content (is_the_table content false counted (c.in-Err.ensures.tree content.texts is.texts heads.texts (ap Err same)))

pub returns-in-Err-build-clause-tree : goal.returns-in-Err-build-clause-tree
returns-in-Err-build-clause-tree g c = λ content is heads directories counted err.
    let table = c.in-Ok.ensures.ok content.texts is.texts heads.texts in
    let tabled = is_the_table content true counted table.1 in
    let same : c.in-Err-build.unmade ≡ Tree = cc in
    not_added content tabled (ap (λ t. add_all t content.dir_entries content.inodes) (sym table.0) ∙ c.in-Err-build.ensures.tree content.dir_entries content.inodes is.dir_entries directories is.inodes heads.inodes (ap Err same))

pub returns-then-not-is_whole-clause-tree : goal.returns-then-not-is_whole-clause-tree
returns-then-not-is_whole-clause-tree g c = λ content is heads directories counted err.
    let table = c.in-Ok.ensures.ok content.texts is.texts heads.texts in
    let tabled = is_the_table content true counted table.1 in
    let built = c.in-Ok-build.ensures.ok content.dir_entries content.inodes is.dir_entries directories is.inodes heads.inodes in
    let h = built.0 in
    let half = built.2.so_far in
    let added : add_all (table_of content) content.dir_entries content.inodes ≡ Some h = ap (λ t. add_all t content.dir_entries content.inodes) (sym table.0) ∙ built.1 in
    let tree = c.in-Ok-build.built.0 in
    let texts : length c.in-Ok.names ≡ length content.texts = ap length table.0 ∙ length-map content.texts (λ (t : Text). t.text) in
    let no = c.is_whole.ensures.no c.if-not-is_whole.true (g.T.Tree.has tree) (g.T.Tree.place tree) h.levels h.dir_entries built.2.dirs half.listed half.directories in
    not_whole content h tabled added (is_not_whole content h (λ levels entries used. no levels entries (half.used ∙ used ∙ sym texts)))

pub returns-then-not-are_all_given-clause-tree : goal.returns-then-not-are_all_given-clause-tree
returns-then-not-are_all_given-clause-tree g c = λ content is heads directories counted err.
    let table = c.in-Ok.ensures.ok content.texts is.texts heads.texts in
    let tabled = is_the_table content true counted table.1 in
    let built = c.in-Ok-build.ensures.ok content.dir_entries content.inodes is.dir_entries directories is.inodes heads.inodes in
    let h = built.0 in
    let half = built.2.so_far in
    let added : add_all (table_of content) content.dir_entries content.inodes ≡ Some h = ap (λ t. add_all t content.dir_entries content.inodes) (sym table.0) ∙ built.1 in
    let noted = subst (λ n. IsNoted n content.inodes) (sym c.is_whole.ensures.noted) half.noted in
    let given = all_given content c.args.heads.now.last heads.inode heads.block heads.stamp in
    not_given content h tabled added (sym given ∙ sym (c.are_all_given.ensures content.inodes noted) ∙ c.if-not-are_all_given.true)

pub returns-clause-ok : goal.returns-clause-ok
unfolding namespace_of
returns-clause-ok g c = λ content is heads directories counted.
    let table = c.in-Ok.ensures.ok content.texts is.texts heads.texts in
    let tabled = is_the_table content true counted table.1 in
    let built = c.in-Ok-build.ensures.ok content.dir_entries content.inodes is.dir_entries directories is.inodes heads.inodes in
    let h = built.0 in
    let half = built.2.so_far in
    let added : add_all (table_of content) content.dir_entries content.inodes ≡ Some h = ap (λ t. add_all t content.dir_entries content.inodes) (sym table.0) ∙ built.1 in
    let tree = c.in-Ok-build.built.0 in
    let texts : length c.in-Ok.names ≡ length content.texts = ap length table.0 ∙ length-map content.texts (λ (t : Text). t.text) in
    let noted = subst (λ n. IsNoted n content.inodes) (sym c.is_whole.ensures.noted) half.noted in
    let given = all_given content c.args.heads.now.last heads.inode heads.block heads.stamp in
    let yes = c.is_whole.ensures.yes c.if-not-is_whole.false (g.T.Tree.has tree) (g.T.Tree.place tree) h.levels h.dir_entries built.2.dirs half.listed half.directories in
    let whole = is_so_whole content h counted yes.0 yes.1 (sym half.used ∙ yes.2 ∙ texts) in
    let all = all_added content h tabled added whole (sym given ∙ sym (c.are_all_given.ensures content.inodes noted) ∙ c.if-not-are_all_given.false) in
    let means : namespace_of content h.nodes ≡ g.T.Tree.meaning c.set_counters.new.self =
    (λ i. record { nodes = sym half.nodes i; counters = record { inode = sym heads.inode i; block = sym heads.block i; stamp = sym heads.stamp i } }) ∙ sym c.set_counters.ensures.means in
    all ∙ ap Some means
