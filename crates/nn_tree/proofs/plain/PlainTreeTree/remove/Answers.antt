use Rattle.std.proofs.Common.{arith, length, ◌≡◌, sym, subst, ◌∙◌, vec_capacity}
use Rattle.nn_tree.specs.Limits.{IsWithinLimits}
use Rattle.nn_tree.specs.Links.{nodes_of, place_of}
use Rattle.nn_tree.specs.Plain.{links_of}
use Rattle.nn_tree.proofs.LimitsLemmas.{limits_cut}
use Rattle.nn_tree.proofs.RoomLemmas.{free_cut, room_cut}
use Rattle.nn_tree.proofs.PlainClauses.{removed}
use Rattle.nn_tree.proofs.plain.PlainTreeTree.remove.Goals as goal

pub invariant_of-self : goal.invariant_of-self
invariant_of-self c =
    let n : c.args.self.now.entries.len ≡ length c.args.self.now.entries.items = omega arith in
    let k = removed c.args.self.now.entries.len c.args.self.now.entries.items c.cut_below.new.entries c.deref_mut.result.now c.args.at.index c.deref_mut.ensures.value n c.args.self.now.tree c.requires.there c.requires.below_root c.cut_below.ensures in
    record {
      tree = k.tree;
      limits = subst IsWithinLimits (sym k.nodes) (limits_cut (nodes_of (links_of c.args.self.now.entries.items)) (place_of (links_of c.args.self.now.entries.items) c.args.at.index) c.args.self.now.limits);
      in_range = c.args.self.now.in_range;
      empty = c.args.self.now.empty;
    }

pub returns-clause-means : goal.returns-clause-means
returns-clause-means c =
    let n : c.args.self.now.entries.len ≡ length c.args.self.now.entries.items = omega arith in
    let k = removed c.args.self.now.entries.len c.args.self.now.entries.items c.cut_below.new.entries c.deref_mut.result.now c.args.at.index c.deref_mut.ensures.value n c.args.self.now.tree c.requires.there c.requires.below_root c.cut_below.ensures in
    λ i. record { nodes = k.nodes i; counters = c.args.self.now.counters }

pub returns-clause-removes : goal.returns-clause-removes
returns-clause-removes c =
    let n : c.args.self.now.entries.len ≡ length c.args.self.now.entries.items = omega arith in
    let k = removed c.args.self.now.entries.len c.args.self.now.entries.items c.cut_below.new.entries c.deref_mut.result.now c.args.at.index c.deref_mut.ensures.value n c.args.self.now.tree c.requires.there c.requires.below_root c.cut_below.ensures in
    k.removes

pub returns-clause-room : goal.returns-clause-room
returns-clause-room c =
    let n : c.args.self.now.entries.len ≡ length c.args.self.now.entries.items = omega arith in
    let k = removed c.args.self.now.entries.len c.args.self.now.entries.items c.cut_below.new.entries c.deref_mut.result.now c.args.at.index c.deref_mut.ensures.value n c.args.self.now.tree c.requires.there c.requires.below_root c.cut_below.ensures in
    record { node = λ ready. free_cut c.args.self.now.entries.items _ c.args.at.index k.each ready; block = λ s has ready. room_cut c.args.self.now.entries.items _ c.args.at.index (vec_capacity c.args.self.now.room) s.index k.each ∙ ready }
