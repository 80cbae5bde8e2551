use Rattle.std.proofs.Common.{arith, refl}
use Rattle.std.proofs.lemmas.Option.{slice_get_read}
use Rattle.nn_tree.specs.Plain.{links_of}
use Rattle.nn_tree.proofs.LinksLemmas.{node_at}
use Rattle.nn_tree.proofs.PlainLemmas.{has_within, spot_entry, held}
use Rattle.nn_tree.proofs.plain.PlainTreeTree.node.Goals as goal

pub index-requires : goal.index-requires
index-requires c = omega (arith, has_within c.args.self.now.entries.items c.args.at.index c.args.self.now.tree c.requires)

pub returns : goal.returns
returns c =
    let read = slice_get_read c.args.self.now.entries.items _ c.args.at.index c.index.result.now refl (has_within c.args.self.now.entries.items c.args.at.index c.args.self.now.tree c.requires) c.index.ensures in
    node_at (links_of c.args.self.now.entries.items) c.args.at.index (held c.index.result.now) c.args.self.now.tree c.requires (spot_entry c.args.self.now.entries.items c.args.at.index c.index.result.now c.requires read)
