use Rattle.std.proofs.Common.{◌++◌, ◌+◌, [], length, Some, None, refl, sym, ap, subst, ◌∙◌}
use Rattle.std.specs.FinMap.{get}
use Rattle.nn_base.proofs.PlainLemmas.{some_of}
use Rattle.nn_message.specs.Frame.{end, summary_message, summary_with}
use Rattle.nn_tree.specs.Below.{IsNextBelow}
use Rattle.nn_image.specs.declared.task.Stage.TheVariants.{Front, Strings, Inodes, Directories, Done}
use Rattle.nn_message.specs.declared.summary.Lengths.{Lengths}
use Rattle.nn_image.specs.Saving.{Target, IsStage, AreCounted}
use Rattle.nn_image.proofs.UsesLemmas.{no_new_use}
use Rattle.nn_image.proofs.StepLemmas.{ok_all, carried, front_step, string_step, head_step, turn_step, inode_step, directory_step, end_step}
use Rattle.nn_image.proofs.advance.advance.Goals as goal

pub write_inode-requires-clause-numbered : goal.write_inode-requires-clause-numbered
write_inode-requires-clause-numbered g c = λ node there.
    no_new_use (g.T.Tree.meaning c.args.tree.now).nodes c.args.names.now (g.T.Tree.place c.args.tree.now c.in-Some-next.node) node c.requires.target.table there

pub returns-in-Front-clause-ok : goal.returns-in-Front-clause-ok
returns-in-Front-clause-ok g c =
    let t : Target = record { ns = g.T.Tree.meaning c.args.tree.now; has = g.T.Tree.has c.args.tree.now; place = g.T.Tree.place c.args.tree.now; table = c.args.names.now; task = c.args.task.now } in
    ok_all c.write_front.result c.write_front.ensures.text c.write_front.ensures.to c.write_front.ensures.counted (λ p put to counted.
    carried t c.args.from.stage Front (Strings 1) c.write_front.new.out.items _ p c.in-Front.is put to (front_step t c.requires.target p.lengths counted))

pub returns-in-Some-clause-ok : goal.returns-in-Some-clause-ok
returns-in-Some-clause-ok g c =
    let t : Target = record { ns = g.T.Tree.meaning c.args.tree.now; has = g.T.Tree.has c.args.tree.now; place = g.T.Tree.place c.args.tree.now; table = c.args.names.now; task = c.args.task.now } in
    let was = subst (λ s. AreCounted t s c.args.from.lengths) c.in-Strings.is c.requires.counted in
    ok_all c.write_string.result c.write_string.ensures.text c.write_string.ensures.to c.write_string.ensures.counted (λ p put to counted.
    carried t c.args.from.stage (Strings c.in-Strings.number) (Strings (c.in-Strings.number + 1)) c.write_string.new.out.items _ p c.in-Strings.is put to
    (string_step t c.in-Strings.number c.in-Some.text.now c.args.from.lengths p.lengths (sym c.in-Some.ensures) was
    (counted ∙ ap (λ b. (let l : Lengths = record { info = c.args.from.lengths.info; strings = c.args.from.lengths.strings + length b; inodes = c.args.from.lengths.inodes; directories = c.args.from.lengths.directories } in l)) put)))

pub returns-in-None-clause-ok : goal.returns-in-None-clause-ok
returns-in-None-clause-ok g c =
    let t : Target = record { ns = g.T.Tree.meaning c.args.tree.now; has = g.T.Tree.has c.args.tree.now; place = g.T.Tree.place c.args.tree.now; table = c.args.names.now; task = c.args.task.now } in
    let was = subst (λ s. AreCounted t s c.args.from.lengths) c.in-Strings.is c.requires.counted in
    let stands = subst (IsStage t) c.in-Strings.is c.requires.stands in
    ok_all c.write_inodes_head.result c.write_inodes_head.ensures.text c.write_inodes_head.ensures.to c.write_inodes_head.ensures.counted (λ p put to counted.
    carried t c.args.from.stage (Strings c.in-Strings.number) (Inodes (Some c.args.task.now.root)) c.write_inodes_head.new.out.items _ p c.in-Strings.is put to
    (head_step t c.requires.target c.in-Strings.number c.args.from.lengths p.lengths (sym c.in-None.ensures) stands was counted))

pub returns-in-None-next-clause-ok : goal.returns-in-None-next-clause-ok
returns-in-None-next-clause-ok g c =
    let t : Target = record { ns = g.T.Tree.meaning c.args.tree.now; has = g.T.Tree.has c.args.tree.now; place = g.T.Tree.place c.args.tree.now; table = c.args.names.now; task = c.args.task.now } in
    let is = c.in-Inodes.is ∙ ap Inodes c.in-None-next.is in
    let was = subst (λ s. AreCounted t s c.args.from.lengths) is c.requires.counted in
    carried t c.args.from.stage (Inodes None) (Directories (Some c.args.task.now.root)) c.args.out.now.items [] _ is c.requires.empty refl (turn_step t c.requires.target c.args.from.lengths was)

pub returns-in_ok-write_inode-in-Some-next-clause-ok : goal.returns-in_ok-write_inode-in-Some-next-clause-ok
returns-in_ok-write_inode-in-Some-next-clause-ok g c =
    let t : Target = record { ns = g.T.Tree.meaning c.args.tree.now; has = g.T.Tree.has c.args.tree.now; place = g.T.Tree.place c.args.tree.now; table = c.args.names.now; task = c.args.task.now } in
    let s = c.in-Some-next.node in
    let is = c.in-Inodes.is ∙ ap Inodes c.in-Some-next.is in
    let was = subst (λ s. AreCounted t s c.args.from.lengths) is c.requires.counted in
    let stands = subst (IsStage t) is c.requires.stands in
    let node = some_of (get t.ns.nodes (t.place s)) (c.requires.target.named s stands.0) in
    let next = subst (λ top. IsNextBelow c.next_below.result t.has t.place t.ns.nodes top (t.place s)) c.requires.target.top c.next_below.ensures in
    let put = c.in_ok-write_inode-in-Some-next.ensures.ok node.0 node.1 in
    carried t c.args.from.stage (Inodes (Some s)) (Inodes c.next_below.result) c.write_inode.new.out.items _ _ is put refl
    (inode_step t s node.0 c.next_below.result c.args.from.lengths _ node.1 stands.0 next was
    (ap (λ n. (let l : Lengths = record { info = c.args.from.lengths.info; strings = c.args.from.lengths.strings; inodes = c.args.from.lengths.inodes + n; directories = c.args.from.lengths.directories } in l)) (c.len.ensures ∙ c.write_inode.new.out.ok.0 ∙ ap length put)))

pub returns-in_ok-put_end-in-None-next-2-clause-ok : goal.returns-in_ok-put_end-in-None-next-2-clause-ok
returns-in_ok-put_end-in-None-next-2-clause-ok g c =
    let t : Target = record { ns = g.T.Tree.meaning c.args.tree.now; has = g.T.Tree.has c.args.tree.now; place = g.T.Tree.place c.args.tree.now; table = c.args.names.now; task = c.args.task.now } in
    let is = c.in-Directories.is ∙ ap Directories c.in-None-next-2.is in
    let was = subst (λ s. AreCounted t s c.args.from.lengths) is c.requires.counted in
    let text = end (summary_message (summary_with t.task.layout c.args.from.lengths)) in
    carried t c.args.from.stage (Directories None) Done c.put_end.new.out.items text _ is (c.in_ok-put_end-in-None-next-2.ensures.ok ∙ ap (λ b. b ++ text) c.requires.empty) refl (end_step t c.args.from.lengths was)

pub returns-in_ok-write_directory-in-Some-next-2-clause-ok : goal.returns-in_ok-write_directory-in-Some-next-2-clause-ok
returns-in_ok-write_directory-in-Some-next-2-clause-ok g c =
    let t : Target = record { ns = g.T.Tree.meaning c.args.tree.now; has = g.T.Tree.has c.args.tree.now; place = g.T.Tree.place c.args.tree.now; table = c.args.names.now; task = c.args.task.now } in
    let s = c.in-Some-next-2.directory in
    let is = c.in-Directories.is ∙ ap Directories c.in-Some-next-2.is in
    let was = subst (λ s. AreCounted t s c.args.from.lengths) is c.requires.counted in
    let stands = subst (IsStage t) is c.requires.stands in
    let node = some_of (get t.ns.nodes (t.place s)) (c.requires.target.named s stands.0) in
    let next = subst (λ top. IsNextBelow c.next_below-in-Some-next-2.result t.has t.place t.ns.nodes top (t.place s)) c.requires.target.top c.next_below-in-Some-next-2.ensures in
    let put = c.in_ok-write_directory-in-Some-next-2.ensures.ok node.0 node.1 in
    carried t c.args.from.stage (Directories (Some s)) (Directories c.next_below-in-Some-next-2.result) c.write_directory.new.out.items _ _ is put refl
    (directory_step t s node.0 c.next_below-in-Some-next-2.result c.args.from.lengths _ node.1 stands.0 next was
    (ap (λ n. (let l : Lengths = record { info = c.args.from.lengths.info; strings = c.args.from.lengths.strings; inodes = c.args.from.lengths.inodes; directories = c.args.from.lengths.directories + n } in l)) (c.len-in-Some-next-2.ensures ∙ c.write_directory.new.out.ok.0 ∙ ap length put)))
