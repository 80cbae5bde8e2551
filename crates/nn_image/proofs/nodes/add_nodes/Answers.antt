use Rattle.std.proofs.Common.{◌≡◌, List, [], ◌∷◌, ◌++◌, length, refl, sym, ap, subst, ◌∙◌, append-nil, append_assoc}
use Rattle.std.proofs.lemmas.Option.{none-some, same_Some}
use Rattle.nn_message.specs.declared.view.InodeView.{InodeView}
use Rattle.nn_message.specs.Messages.{Inode, IsInode}
use Rattle.nn_message.specs.Spelling.{delimited, inode}
use Rattle.nn_message.specs.Views.{IsInodeView}
use Rattle.nn_image.specs.Assembly.{add_inodes}
use Rattle.nn_image.specs.Building.{IsHalf}
use Rattle.nn_image.proofs.AddingLemmas.{none_left as no_more, one_added, one_refused}
use Rattle.nn_image.proofs.TakingLemmas.{takes_first, none_left, delimited_some, is_none, is_not_none}
use Rattle.nn_image.proofs.nodes.add_nodes.Goals as goal

pub nodes-init : goal.nodes-init
nodes-init g c = record { half = c.requires.half; to_come = λ entries done rest h all spelled was. (done, rest, h, all, spelled, refl, refl, was) }

pub nodes-preserved : goal.nodes-preserved
nodes-preserved g c =
    let some = is_not_none c.nodes.rest.now c.is_empty.result c.is_empty.ensures c.nodes-test.true in
    let half = c.nodes.invariant.half in
    let took = c.in-Some.ensures.some in
    let put = c.in-Ok.ensures.ok half.0 half.1 half.2 took.0 took.1 took.2 half.3 in
    record {
      half = (half.0, half.1 ++ took.0 ∷ [], put.0, put.2);
      to_come = λ entries done rest h all spelled from.
          let was = c.nodes.invariant.to_come entries done rest h all spelled from in
          let next = takes_first IsInodeView IsInode (λ i. delimited (inode i)) was.1 c.take_inode.result c.nodes.rest.now c.take_inode.new.rest.now was.3 was.4 some c.take_inode.ensures in
          let shows = subst (λ (v : InodeView). IsInodeView v next.first) (same_Some _ _ (sym next.is ∙ c.in-Some.is)) next.shows in
          let added = c.in-Ok.ensures.ok entries was.0 was.2 next.first next.range shows was.7 in (
            was.0 ++ next.first ∷ [],
            next.rest,
            added.0,
            next.others,
            next.left,
            append_assoc was.0 (next.first ∷ []) next.rest ∙ ap (λ a. was.0 ++ a) (sym next.are) ∙ was.5,
            was.6 ∙ ap (add_inodes c.args.names.now was.2) next.are ∙ one_added c.args.names.now was.2 next.first next.rest added.0 added.1,
            added.2,
          );
    }

pub returns-in_default-clause-tree : goal.returns-in_default-clause-tree
returns-in_default-clause-tree g c = λ entries done rest h all spelled from tree.
    let some = is_not_none c.nodes.rest.now c.is_empty.result c.is_empty.ensures c.nodes-test.true in
    let was = c.nodes.invariant.to_come entries done rest h all spelled from in
    let next = takes_first IsInodeView IsInode (λ i. delimited (inode i)) was.1 c.take_inode.result c.nodes.rest.now c.take_inode.new.rest.now was.3 was.4 some c.take_inode.ensures in
    absurd (none-some _ (sym c.in_default.is ∙ next.is))

pub returns-in-Err-clause-tree : goal.returns-in-Err-clause-tree
returns-in-Err-clause-tree g c = λ entries done rest h all spelled from tree.
    let some = is_not_none c.nodes.rest.now c.is_empty.result c.is_empty.ensures c.nodes-test.true in
    let was = c.nodes.invariant.to_come entries done rest h all spelled from in
    let next = takes_first IsInodeView IsInode (λ i. delimited (inode i)) was.1 c.take_inode.result c.nodes.rest.now c.take_inode.new.rest.now was.3 was.4 some c.take_inode.ensures in
    let shows = subst (λ (v : InodeView). IsInodeView v next.first) (same_Some _ _ (sym next.is ∙ c.in-Some.is)) next.shows in
    let refused = c.in-Err.ensures.tree entries was.0 was.2 next.first next.range shows was.7 tree in
    was.6 ∙ ap (add_inodes c.args.names.now was.2) next.are ∙ one_refused c.args.names.now was.2 next.first next.rest refused

pub returns-clause-ok : goal.returns-clause-ok
returns-clause-ok g c = λ entries done rest h all spelled from.
    let was = c.nodes.invariant.to_come entries done rest h all spelled from in
    let none = is_none c.nodes.rest.now c.is_empty.result c.is_empty.ensures c.nodes-test.false in
    let end = none_left IsInode (λ i. delimited (inode i)) was.1 (λ i _. delimited_some (inode i)) was.3 (sym (ap length was.4) ∙ none) in
    let same : was.0 ≡ done ++ rest = sym (append-nil was.0) ∙ ap (λ a. was.0 ++ a) (sym end) ∙ was.5 in (
      was.2,
      was.6 ∙ ap (add_inodes c.args.names.now was.2) end ∙ no_more c.args.names.now was.2,
      subst (λ (d : List Inode). IsHalf c.nodes.half (g.T.Tree.meaning c.nodes.tree) (g.T.Tree.has c.nodes.tree) (g.T.Tree.place c.nodes.tree) c.args.names.now entries d was.2) same was.7,
    )
