use Rattle.std.proofs.Common.{arith, refl, sym, subst, ap, ◌∙◌, ◌≡◌, ◌<◌, is_some, unwrap_or, [], vec_capacity}
use Rattle.std.proofs.lemmas.Option.{slice_get_read}
use Rattle.std.specs.Option.{option_map_or}
use Rattle.nn_tree.specs.Limits.{IsWithinLimits}
use Rattle.nn_tree.specs.Plain.{links_of, blocks_in, blocks_in_at}
use Rattle.nn_tree.proofs.LinksLemmas.{node_at}
use Rattle.nn_tree.proofs.PlainLemmas.{has_within, spot_entry, held}
use Rattle.nn_tree.proofs.RoomLemmas.{room_made}
use Rattle.nn_tree.proofs.PlainClauses.{more_of}
use Rattle.nn_tree.proofs.plain.PlainTreeTree.reserve.Goals as goal

pub index-requires : goal.index-requires
index-requires c = omega (arith, has_within c.args.self.now.entries.items c.args.at.index c.args.self.now.tree c.requires)

pub overflow_add-count : goal.overflow_add-count
overflow_add-count c =
    let read = slice_get_read c.args.self.now.entries.items _ c.args.at.index c.index.result.now refl (has_within c.args.self.now.entries.items c.args.at.index c.args.self.now.tree c.requires) c.index.ensures in
    let node = c.args.self.now.limits.each _ c.index.result.now.node (node_at (links_of c.args.self.now.entries.items) c.args.at.index (held c.index.result.now) c.args.self.now.tree c.requires (spot_entry c.args.self.now.entries.items c.args.at.index c.index.result.now c.requires read)) in
    let few = node.kind.few in
    omega (arith, few)

pub invariant_of-self-2 : goal.invariant_of-self-2
invariant_of-self-2 c =
    let m = more_of c.args.self.now.entries.items c.ensure_free.new.entries.items c.args.self.now.tree c.ensure_free.ensures.more in
    record { tree = m.tree; limits = subst IsWithinLimits (sym m.nodes) c.args.self.now.limits; in_range = c.args.self.now.in_range; empty = c.in_ok-reserve.ensures.len ∙ c.args.self.now.empty }

pub returns-clause-block : goal.returns-clause-block
returns-clause-block c =
    let m = more_of c.args.self.now.entries.items c.ensure_free.new.entries.items c.args.self.now.tree c.ensure_free.ensures.more in
    let within = has_within c.args.self.now.entries.items c.args.at.index c.args.self.now.tree c.requires in
    let read = slice_get_read c.args.self.now.entries.items _ c.args.at.index c.index.result.now refl within c.index.ensures in
    let blocks : blocks_in_at c.ensure_free.new.entries.items c.args.at.index ≡ c.block_count-count.result = m.blocks c.args.at.index within ∙ ap (λ o. option_map_or blocks_in o 0) read ∙ sym c.block_count-count.ensures in
    let enough : c.block_count-count.result < vec_capacity c.reserve.new.self = omega (arith, c.in_ok-reserve.ensures.ok) in
    room_made c.ensure_free.new.entries.items (vec_capacity c.reserve.new.self) c.args.at.index c.block_count-count.result blocks enough

pub returns-in_err-ensure_free-clause-means : goal.returns-in_err-ensure_free-clause-means
returns-in_err-ensure_free-clause-means c =
    let m = more_of c.args.self.now.entries.items c.ensure_free.new.entries.items c.args.self.now.tree c.ensure_free.ensures.more in
    λ i. record { nodes = m.nodes i; counters = c.args.self.now.counters }

pub returns-in_err-ensure_free-clause-has : goal.returns-in_err-ensure_free-clause-has
returns-in_err-ensure_free-clause-has c =
    let m = more_of c.args.self.now.entries.items c.ensure_free.new.entries.items c.args.self.now.tree c.ensure_free.ensures.more in
    λ i s. is_some (m.path i s.index)

pub returns-in_err-ensure_free-clause-place : goal.returns-in_err-ensure_free-clause-place
returns-in_err-ensure_free-clause-place c =
    let m = more_of c.args.self.now.entries.items c.ensure_free.new.entries.items c.args.self.now.tree c.ensure_free.ensures.more in
    λ i s. unwrap_or (m.path i s.index) []

pub returns-clause-means : goal.returns-clause-means
returns-clause-means c =
    let m = more_of c.args.self.now.entries.items c.ensure_free.new.entries.items c.args.self.now.tree c.ensure_free.ensures.more in
    λ i. record { nodes = m.nodes i; counters = c.args.self.now.counters }

pub returns-clause-has : goal.returns-clause-has
returns-clause-has c =
    let m = more_of c.args.self.now.entries.items c.ensure_free.new.entries.items c.args.self.now.tree c.ensure_free.ensures.more in
    λ i s. is_some (m.path i s.index)

pub returns-clause-place : goal.returns-clause-place
returns-clause-place c =
    let m = more_of c.args.self.now.entries.items c.ensure_free.new.entries.items c.args.self.now.tree c.ensure_free.ensures.more in
    λ i s. unwrap_or (m.path i s.index) []
