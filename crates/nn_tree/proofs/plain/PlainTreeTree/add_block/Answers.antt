use Rattle.std.proofs.Common.{arith, refl, sym, subst, is_some, unwrap_or, [], vec_capacity}
use Rattle.std.proofs.lemmas.Option.{slice_get_read}
use Rattle.nn_tree.specs.Limits.{IsWithinLimits}
use Rattle.nn_tree.proofs.PlainLemmas.{has_within}
use Rattle.nn_tree.proofs.RoomLemmas.{free_set, room_enough}
use Rattle.nn_tree.proofs.PlainClauses.{block_entry}
use Rattle.nn_tree.proofs.plain.PlainTreeTree.add_block.Goals as goal

pub index_mut-requires : goal.index_mut-requires
index_mut-requires c = omega (arith, has_within c.args.self.now.entries.items c.args.at.index c.args.self.now.tree c.requires.there)

pub invariant_of-self : goal.invariant_of-self
invariant_of-self c =
    let read = slice_get_read c.args.self.now.entries.items _ c.args.at.index c.index_mut.result.now refl (has_within c.args.self.now.entries.items c.args.at.index c.args.self.now.tree c.requires.there) c.index_mut.ensures.value in
    let k = block_entry c.args.self.now.entries.items c.args.at.index c.index_mut.result.now c.args.block c.add_block.new.self c.args.self.now.tree c.requires.there read c.add_block.ensures.added in
    record { tree = k.tree; limits = subst IsWithinLimits (sym k.nodes) c.requires.limits; in_range = c.args.self.now.in_range; empty = c.add_block.ensures.empty }

pub returns-clause-means : goal.returns-clause-means
returns-clause-means c =
    let read = slice_get_read c.args.self.now.entries.items _ c.args.at.index c.index_mut.result.now refl (has_within c.args.self.now.entries.items c.args.at.index c.args.self.now.tree c.requires.there) c.index_mut.ensures.value in
    let k = block_entry c.args.self.now.entries.items c.args.at.index c.index_mut.result.now c.args.block c.add_block.new.self c.args.self.now.tree c.requires.there read c.add_block.ensures.added in
    λ i. record { nodes = k.nodes i; counters = c.args.self.now.counters }

pub returns-clause-has : goal.returns-clause-has
returns-clause-has c =
    let read = slice_get_read c.args.self.now.entries.items _ c.args.at.index c.index_mut.result.now refl (has_within c.args.self.now.entries.items c.args.at.index c.args.self.now.tree c.requires.there) c.index_mut.ensures.value in
    let k = block_entry c.args.self.now.entries.items c.args.at.index c.index_mut.result.now c.args.block c.add_block.new.self c.args.self.now.tree c.requires.there read c.add_block.ensures.added in
    λ i s. is_some (k.path i s.index)

pub returns-clause-place : goal.returns-clause-place
returns-clause-place c =
    let read = slice_get_read c.args.self.now.entries.items _ c.args.at.index c.index_mut.result.now refl (has_within c.args.self.now.entries.items c.args.at.index c.args.self.now.tree c.requires.there) c.index_mut.ensures.value in
    let k = block_entry c.args.self.now.entries.items c.args.at.index c.index_mut.result.now c.args.block c.add_block.new.self c.args.self.now.tree c.requires.there read c.add_block.ensures.added in
    λ i s. unwrap_or (k.path i s.index) []

pub add_block-requires-clause-enough : goal.add_block-requires-clause-enough
add_block-requires-clause-enough c =
    let read = slice_get_read c.args.self.now.entries.items _ c.args.at.index c.index_mut.result.now refl (has_within c.args.self.now.entries.items c.args.at.index c.args.self.now.tree c.requires.there) c.index_mut.ensures.value in
    room_enough c.args.self.now.entries.items (vec_capacity c.args.self.now.room) c.args.at.index c.index_mut.result.now c.requires.room read

pub returns-clause-room : goal.returns-clause-room
returns-clause-room c =
    let read = slice_get_read c.args.self.now.entries.items _ c.args.at.index c.index_mut.result.now refl (has_within c.args.self.now.entries.items c.args.at.index c.args.self.now.tree c.requires.there) c.index_mut.ensures.value in
    free_set c.args.self.now.entries.items c.args.at.index c.index_mut.result.now (record c.index_mut.result.now { node = record c.index_mut.result.now.node { kind = c.add_block.new.self } }) read refl
