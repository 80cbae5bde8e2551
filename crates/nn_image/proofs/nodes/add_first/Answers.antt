use Rattle.std.proofs.Common.{◌≡◌, [], length, sym, ap, subst, ◌∙◌}
use Rattle.std.specs.FinMap.{insert, empty}
use Rattle.std.specs.Prelude.{Err}
use Rattle.nn_image.specs.declared.unmade.Unmade.TheVariants.{Tree}
use Rattle.std.proofs.lemmas.Option.{none-some}
use Rattle.std.proofs.lemmas.List.{nil_from_length}
use Rattle.nn_message.specs.Views.{IsKindView}
use Rattle.nn_image.specs.Assembly.{Owned, use_names, add_root}
use Rattle.nn_image.proofs.PlacedLemmas.{starts}
use Rattle.nn_image.proofs.TakingLemmas.{is_none, is_not_none}
use Rattle.nn_image.proofs.FirstNodeLemmas.{not_a_dir, a_dir, the_dir, refused, begun, root_is}
use Rattle.nn_image.proofs.nodes.add_first.Goals as goal

pub returns-then-not-is_empty-clause-tree : goal.returns-then-not-is_empty-clause-tree
returns-then-not-is_empty-clause-tree g c = λ entries inode all spelled is shows tree.
    let some = is_not_none c.args.view.now.name.now c.is_empty.result c.is_empty.ensures c.if-not-is_empty.true in
    refused (add_root c.args.names.now entries inode) (λ h e. some (ap length (shows.name ∙ (starts c.args.names.now entries h inode e).unnamed)))

pub returns-then-view-ne-ROOT-clause-tree : goal.returns-then-view-ne-ROOT-clause-tree
returns-then-view-ne-ROOT-clause-tree g c = λ entries inode all spelled is shows tree.
    refused (add_root c.args.names.now entries inode) (λ h e. c.if-view-ne-ROOT.true (shows.id ∙ (starts c.args.names.now entries h inode e).id))

pub returns-in-File-clause-tree : goal.returns-in-File-clause-tree
returns-in-File-clause-tree g c = λ entries inode all spelled is shows tree.
    refused (add_root c.args.names.now entries inode) (λ h e. not_a_dir inode.kind c.args.view.now.kind _ _ _ c.in-File.is shows.kind (starts c.args.names.now entries h inode e).dir)

pub returns-in_default-clause-tree : goal.returns-in_default-clause-tree
returns-in_default-clause-tree g c = λ entries inode all spelled is shows tree.
    refused (add_root c.args.names.now entries inode) (λ h e.
    none-some _ (sym (ap (use_names c.args.names.now 0) (sym shows.attributes) ∙ c.in_default.ensures) ∙ (starts c.args.names.now entries h inode e).uses))

pub returns-in-Err-clause-tree : goal.returns-in-Err-clause-tree
returns-in-Err-clause-tree g c = λ entries inode all spelled is shows tree.
    let id : inode.id ≡ 16385 = sym shows.id ∙ c.if-view-ne-ROOT.false in
    let dir = a_dir inode.kind c.in-Dir.quota (the_dir inode.kind c.in-Dir.quota (subst (λ k. IsKindView k inode.kind) c.in-Dir.is shows.kind)) in
    let same : c.in-Err.unmade ≡ Tree = cc in
    absurd (c.in-Err.ensures.tree inode entries id dir all spelled (ap Err same))

pub returns-in-Ok-clause-ok : goal.returns-in-Ok-clause-ok
returns-in-Ok-clause-ok g c = λ entries inode all spelled is shows.
    let none = is_none c.args.view.now.name.now c.is_empty.result c.is_empty.ensures c.if-not-is_empty.false in
    let unnamed : inode.name ≡ [] = sym shows.name ∙ nil_from_length c.args.view.now.name.now none in
    let id : inode.id ≡ 16385 = sym shows.id ∙ c.if-view-ne-ROOT.false in
    let dir = a_dir inode.kind c.in-Dir.quota (the_dir inode.kind c.in-Dir.quota (subst (λ k. IsKindView k inode.kind) c.in-Dir.is shows.kind)) in
    let owned : Owned = record { owner = c.in-Some.owners.owner; group = c.in-Some.owners.group; used = c.in-Some.owners.used } in
    let has = g.T.Tree.has c.in_ok-tree.tree in
    let place = g.T.Tree.place c.in_ok-tree.tree in
    let half = c.in-Ok.ensures.ok has place inode entries id dir all spelled c.in_ok-tree.ensures.there c.in_ok-tree.ensures.top in
    let nodes = c.in_ok-tree.ensures.means ∙ ap (insert empty []) (root_is c.args.view.now owned inode c.in-Dir.quota shows id c.in-Dir.is) in
    begun c.args.names.now entries inode owned is unnamed id dir (ap (use_names c.args.names.now 0) (sym shows.attributes) ∙ c.in-Some.ensures)
    c.in-Ok.half (g.T.Tree.meaning c.in_ok-tree.tree) has place nodes half.0 half.1 half.2 half.3 half.4
