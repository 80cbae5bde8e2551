use Rattle.std.proofs.Common.{subst, List, Some, None, [], length}
use Rattle.nn_tree.specs.declared.entry.Entry.{Entry}
use Rattle.nn_tree.specs.Plain.{IsLeast, links_of}
use Rattle.nn_tree.proofs.LinksLemmas.{path_of_place}
use Rattle.nn_tree.proofs.LeastLemmas.{none_next, some_next}
use Rattle.nn_tree.proofs.plain.PlainTreeTree.first_child.Goals as goal

pub returns-in-Some : goal.returns-in-Some
returns-in-Some c =
    some_next (links_of c.args.self.now.entries.items) c.args.at.index c.in-Some.index _ [] c.args.self.now.tree (path_of_place (links_of c.args.self.now.entries.items) c.args.at.index c.requires)
    (subst (λ (es : List Entry). IsLeast (links_of es) c.args.at.index [] (length es) (Some c.in-Some.index)) c.deref.ensures.value c.in-Some.ensures)

pub returns-in-None : goal.returns-in-None
returns-in-None c =
    none_next (links_of c.args.self.now.entries.items) c.args.at.index _ [] c.args.self.now.tree (path_of_place (links_of c.args.self.now.entries.items) c.args.at.index c.requires)
    (subst (λ (es : List Entry). IsLeast (links_of es) c.args.at.index [] (length es) None) c.deref.ensures.value c.in-None.ensures)
