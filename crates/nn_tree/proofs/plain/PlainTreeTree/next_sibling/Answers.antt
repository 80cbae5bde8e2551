use Rattle.std.proofs.Common.{arith, refl, Some, None, ◌<◌}
use Rattle.std.proofs.lemmas.Option.{slice_get_read}
use Rattle.nn_tree.proofs.PlainLemmas.{has_within}
use Rattle.nn_tree.proofs.PlainClauses.{sibling_found}
use Rattle.nn_tree.proofs.plain.PlainTreeTree.next_sibling.Goals as goal

pub index-entry-requires : goal.index-entry-requires
index-entry-requires c = omega (arith, has_within c.args.self.now.entries.items c.args.at.index c.args.self.now.tree c.requires)

pub returns-in-Some-clause-next : goal.returns-in-Some-clause-next
returns-in-Some-clause-next c =
    let read = slice_get_read c.args.self.now.entries.items _ c.args.at.index c.index-entry.result.now refl (has_within c.args.self.now.entries.items c.args.at.index c.args.self.now.tree c.requires) c.index-entry.ensures in
    let below_root : 0 < c.args.at.index = omega arith in
    sibling_found c.args.self.now.entries.items c.deref.result.now c.args.at.index c.index-entry.result.now c.name.result.now (Some c.in-Some.index) c.deref.ensures.value c.args.self.now.tree c.requires below_root read c.name.ensures c.in-Some.ensures

pub returns-in-None-clause-next : goal.returns-in-None-clause-next
returns-in-None-clause-next c =
    let read = slice_get_read c.args.self.now.entries.items _ c.args.at.index c.index-entry.result.now refl (has_within c.args.self.now.entries.items c.args.at.index c.args.self.now.tree c.requires) c.index-entry.ensures in
    let below_root : 0 < c.args.at.index = omega arith in
    sibling_found c.args.self.now.entries.items c.deref.result.now c.args.at.index c.index-entry.result.now c.name.result.now None c.deref.ensures.value c.args.self.now.tree c.requires below_root read c.name.ensures c.in-None.ensures
