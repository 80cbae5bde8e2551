use Rattle.std.proofs.Common.{◌≡◌, List, [], ◌∷◌, sym, ap, subst, ◌∙◌}
use Rattle.std.specs.Prelude.{Err}
use Rattle.std.proofs.lemmas.Option.{same_Some}
use Rattle.nn_image.specs.declared.unmade.Unmade.TheVariants.{Tree}
use Rattle.nn_message.specs.declared.view.InodeView.{InodeView}
use Rattle.nn_message.specs.Messages.{Inode, IsInode}
use Rattle.nn_message.specs.Spelling.{delimited, inode}
use Rattle.nn_message.specs.Views.{IsInodeView}
use Rattle.nn_image.specs.Assembly.{add_all}
use Rattle.nn_image.specs.Building.{IsHalf}
use Rattle.nn_image.proofs.AddingLemmas.{no_root, root_added, root_refused}
use Rattle.nn_image.proofs.TakingLemmas.{takes_first, begins_some, nothing_taken}
use Rattle.nn_image.proofs.assemble.build.Goals as goal

pub returns-in_default-clause-tree : goal.returns-in_default-clause-tree
returns-in_default-clause-tree g c = λ entries all listed directories ranges inodes tree.
    let none = nothing_taken IsInodeView IsInode (λ i. delimited (inode i)) all c.take_inode.result c.args.inodes.now c.take_inode.new.rest.now ranges inodes c.in_default.is c.take_inode.ensures in
    ap (add_all c.args.names.now entries) none ∙ no_root c.args.names.now entries

pub add_nodes-requires-clause-half : goal.add_nodes-requires-clause-half
add_nodes-requires-clause-half g c =
    let listed = c.requires.listed in
    let took = c.in-Some.ensures.some in
    let first = c.in-Ok.ensures.ok listed.0 took.0 listed.1 listed.2 took.1 took.2 in
    (listed.0, took.0 ∷ [], first.0, first.2)

pub returns-in-Ok-add_nodes-clause-ok : goal.returns-in-Ok-add_nodes-clause-ok
returns-in-Ok-add_nodes-clause-ok g c = λ entries all listed directories ranges inodes.
    let took = c.in-Some.ensures.some in
    let some = begins_some (inode took.0) c.args.inodes.now c.take_inode.new.rest.now took.3 in
    let next = takes_first IsInodeView IsInode (λ i. delimited (inode i)) all c.take_inode.result c.args.inodes.now c.take_inode.new.rest.now ranges inodes some c.take_inode.ensures in
    let shows = subst (λ (v : InodeView). IsInodeView v next.first) (same_Some _ _ (sym next.is ∙ c.in-Some.is)) next.shows in
    let first = c.in-Ok.ensures.ok entries next.first listed directories next.range shows in
    let added = c.in-Ok-add_nodes.ensures.ok entries (next.first ∷ []) next.rest first.0 next.others next.left first.2 in (
      added.0,
      ap (add_all c.args.names.now entries) next.are ∙ root_added c.args.names.now entries next.first next.rest first.0 first.1 ∙ added.1,
      subst (λ (l : List Inode). IsHalf c.add_nodes.new.half (g.T.Tree.meaning c.add_nodes.new.tree) (g.T.Tree.has c.add_nodes.new.tree) (g.T.Tree.place c.add_nodes.new.tree) c.args.names.now entries l added.0) (sym next.are) added.2,
    )

pub returns-in-Ok-clause-tree : goal.returns-in-Ok-clause-tree
returns-in-Ok-clause-tree g c = λ entries all listed directories ranges inodes tree.
    let took = c.in-Some.ensures.some in
    let some = begins_some (inode took.0) c.args.inodes.now c.take_inode.new.rest.now took.3 in
    let next = takes_first IsInodeView IsInode (λ i. delimited (inode i)) all c.take_inode.result c.args.inodes.now c.take_inode.new.rest.now ranges inodes some c.take_inode.ensures in
    let shows = subst (λ (v : InodeView). IsInodeView v next.first) (same_Some _ _ (sym next.is ∙ c.in-Some.is)) next.shows in
    let first = c.in-Ok.ensures.ok entries next.first listed directories next.range shows in
    let same : c.in-Err-add_nodes.unmade ≡ Tree = cc in
    let none = c.in-Err-add_nodes.ensures.tree entries (next.first ∷ []) next.rest first.0 next.others next.left first.2 (ap Err same) in
    ap (add_all c.args.names.now entries) next.are ∙ root_added c.args.names.now entries next.first next.rest first.0 first.1 ∙ none

pub returns-clause-tree : goal.returns-clause-tree
returns-clause-tree g c = λ entries all listed directories ranges inodes tree.
    let took = c.in-Some.ensures.some in
    let some = begins_some (inode took.0) c.args.inodes.now c.take_inode.new.rest.now took.3 in
    let next = takes_first IsInodeView IsInode (λ i. delimited (inode i)) all c.take_inode.result c.args.inodes.now c.take_inode.new.rest.now ranges inodes some c.take_inode.ensures in
    let shows = subst (λ (v : InodeView). IsInodeView v next.first) (same_Some _ _ (sym next.is ∙ c.in-Some.is)) next.shows in
    let same : c.in-Err.unmade ≡ Tree = cc in
    ap (add_all c.args.names.now entries) next.are ∙ root_refused c.args.names.now entries next.first next.rest (c.in-Err.ensures.tree entries next.first listed directories next.range shows (ap Err same))
