use Rattle.std.proofs.Common.{◌++◌, None, ap, sym, ◌∙◌}
use Rattle.std.proofs.lemmas.Option.{same_Some}
use Rattle.std.proofs.lemmas.Result.{on_ok_weaker}
use Rattle.nn_tree.specs.declared.node.Node.{Node}
use Rattle.nn_message.specs.Spelling.{delimited, dir_entry}
use Rattle.nn_image.specs.Image.{child_ids}
use Rattle.nn_image.proofs.ChildLemmas.{first_passed, some_child, entry_none, entry_some}
use Rattle.nn_image.proofs.directory.write_directory.Goals as goal

pub returns-in-None : goal.returns-in-None
returns-in-None g c =
    let m = (g.T.Tree.meaning c.args.tree.now).nodes in
    let place = g.T.Tree.place c.args.tree.now in
    let sound = c.counters-counters.ensures.sound in
    let none = first_passed m (place c.args.at) (g.T.Tree.has c.args.tree.now) place sound.named sound.formed None c.in-None.ensures in
    record { ok = λ node there. c.requires.empty ∙ sym (entry_none m (place c.args.at) node none) }

pub returns-in-Some : goal.returns-in-Some
returns-in-Some g c =
    let m = (g.T.Tree.meaning c.args.tree.now).nodes in
    let place = g.T.Tree.place c.args.tree.now in
    let sound = c.counters-counters.ensures.sound in
    let first = some_child m (place c.args.at) (g.T.Tree.has c.args.tree.now) place sound.named sound.formed c.in-Some.field-0 c.in-Some.ensures in
    record {
      ok = λ node there.
          let same = same_Some _ _ (sym c.node.ensures ∙ there) in
          on_ok_weaker c.put_entry.result (λ put.
          put ∙ ap (λ front. front ++ delimited (dir_entry (record { parent = c.node.result.now.id; children = child_ids m (place c.args.at) }))) c.requires.empty
          ∙ ap (λ (n : Node). delimited (dir_entry (record { parent = n.id; children = child_ids m (place c.args.at) }))) same
          ∙ sym (entry_some m (place c.args.at) node first.0 first.1)) c.put_entry.ensures.ok;
    }
