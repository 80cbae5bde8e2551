use Rattle.std.proofs.Common.{arith, refl, Some, ◌∙◌, vec_capacity}
use Rattle.std.proofs.lemmas.Option.{slice_get_read}
use Rattle.nn_tree.specs.Plain.{links_of}
use Rattle.nn_tree.proofs.PlainLemmas.{has_within}
use Rattle.nn_tree.proofs.RoomLemmas.{free_set, room_set}
use Rattle.nn_tree.proofs.PlainClauses.{moved_entry, limits_moved}
use Rattle.nn_tree.proofs.plain.PlainTreeTree.relink.Goals as goal

pub index_mut-entry-requires : goal.index_mut-entry-requires
index_mut-entry-requires c = omega (arith, has_within c.args.self.now.entries.items c.args.at.index c.args.self.now.tree c.requires.there)

pub invariant_of-self : goal.invariant_of-self
invariant_of-self c =
    let read = slice_get_read c.args.self.now.entries.items _ c.args.at.index c.index_mut-entry.result.now refl (has_within c.args.self.now.entries.items c.args.at.index c.args.self.now.tree c.requires.there) c.index_mut-entry.ensures.value in
    let k = moved_entry c.args.self.now.entries.items c.args.at.index c.index_mut-entry.result.now (record { live = c.index_mut-entry.result.now.live; parent = c.args.parent.index; name = Some c.args.name; node = c.index_mut-entry.result.now.node }) c.args.self.now.tree c.requires.there read c.requires.below_root refl refl c.requires.to c.bytes-bytes.ensures.name c.requires.in_dir c.requires.outside c.requires.free in
    record { tree = k.tree; limits = limits_moved (links_of c.args.self.now.entries.items) _ c.args.at.index _ c.args.self.now.tree k c.args.self.now.limits; in_range = c.args.self.now.in_range; empty = c.args.self.now.empty }

pub returns-clause-means : goal.returns-clause-means
returns-clause-means c =
    let read = slice_get_read c.args.self.now.entries.items _ c.args.at.index c.index_mut-entry.result.now refl (has_within c.args.self.now.entries.items c.args.at.index c.args.self.now.tree c.requires.there) c.index_mut-entry.ensures.value in
    let k = moved_entry c.args.self.now.entries.items c.args.at.index c.index_mut-entry.result.now (record { live = c.index_mut-entry.result.now.live; parent = c.args.parent.index; name = Some c.args.name; node = c.index_mut-entry.result.now.node }) c.args.self.now.tree c.requires.there read c.requires.below_root refl refl c.requires.to c.bytes-bytes.ensures.name c.requires.in_dir c.requires.outside c.requires.free in
    λ i. record { nodes = k.nodes i; counters = c.args.self.now.counters }

pub returns-clause-keeps : goal.returns-clause-keeps
returns-clause-keeps c =
    let read = slice_get_read c.args.self.now.entries.items _ c.args.at.index c.index_mut-entry.result.now refl (has_within c.args.self.now.entries.items c.args.at.index c.args.self.now.tree c.requires.there) c.index_mut-entry.ensures.value in
    let k = moved_entry c.args.self.now.entries.items c.args.at.index c.index_mut-entry.result.now (record { live = c.index_mut-entry.result.now.live; parent = c.args.parent.index; name = Some c.args.name; node = c.index_mut-entry.result.now.node }) c.args.self.now.tree c.requires.there read c.requires.below_root refl refl c.requires.to c.bytes-bytes.ensures.name c.requires.in_dir c.requires.outside c.requires.free in
    k.keeps

pub returns-clause-room : goal.returns-clause-room
returns-clause-room c =
    let read = slice_get_read c.args.self.now.entries.items _ c.args.at.index c.index_mut-entry.result.now refl (has_within c.args.self.now.entries.items c.args.at.index c.args.self.now.tree c.requires.there) c.index_mut-entry.ensures.value in
    record {
      node = λ ready. free_set c.args.self.now.entries.items c.args.at.index c.index_mut-entry.result.now _ read refl ∙ ready;
      block = λ s has ready. room_set c.args.self.now.entries.items c.args.at.index c.index_mut-entry.result.now _ (vec_capacity c.args.self.now.room) s.index read refl ∙ ready;
    }
