use Rattle.std.proofs.Common.{arith, refl, ◌≡◌, suc, ◌-◌}
use Rattle.std.proofs.lemmas.Option.{slice_get_read}
use Rattle.nn_tree.specs.Plain.{links_of}
use Rattle.nn_tree.proofs.SoundLemmas.{parent_of}
use Rattle.nn_tree.proofs.PlainLemmas.{has_within, spot_entry, held}
use Rattle.nn_tree.proofs.plain.PlainTreeTree.parent.Goals as goal

pub index-requires : goal.index-requires
index-requires c = omega (arith, has_within c.args.self.now.entries.items c.args.at.index c.args.self.now.tree c.requires)

pub returns-else-at-eq0 : goal.returns-else-at-eq0
returns-else-at-eq0 c =
    let read = slice_get_read c.args.self.now.entries.items _ c.args.at.index c.index.result.now refl (has_within c.args.self.now.entries.items c.args.at.index c.args.self.now.tree c.requires) c.index.ensures in
    let below_root : c.args.at.index ≡ suc (c.args.at.index - 1) = omega arith in
    parent_of (links_of c.args.self.now.entries.items) c.args.at.index (c.args.at.index - 1) (held c.index.result.now) c.args.self.now.tree below_root (spot_entry c.args.self.now.entries.items c.args.at.index c.index.result.now c.requires read)
