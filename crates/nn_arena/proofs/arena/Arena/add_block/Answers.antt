use Rattle.std.proofs.Common.{◌≡◌, length, List, true, refl, sym, ap, subst, arith}
use Rattle.std.specs.Prelude.{vec_len, vec_capacity}
use Rattle.nn_tree.specs.Namespace.{block_count}
use Rattle.nn_tree.specs.Limits.{IsWithinLimits}
use Rattle.nn_tree.specs.Links.{place_of}
use Rattle.nn_tree.specs.Changes.{with_block}
use Rattle.nn_tree.proofs.LinksLemmas.{node_found, path_of_place}
use Rattle.nn_arena.specs.declared.place.Place.{Place}
use Rattle.nn_arena.specs.Places.{links_of, link_of, in_use}
use Rattle.nn_arena.specs.Room.{has_block_room}
use Rattle.nn_arena.proofs.PlaceLemmas.{spot_entry, spot_in_use, live_entry}
use Rattle.nn_arena.proofs.KeptLemmas.{edited_back, with_back}
use Rattle.nn_arena.proofs.SortLemmas.{dir_added, count_changed, blocks_added, file_there}
use Rattle.nn_arena.proofs.arena.Arena.add_block.Goals as goal

pub add_block_in-requires-clause-there : goal.add_block_in-requires-clause-there
add_block_in-requires-clause-there c = subst (λ (ps : List Place). in_use ps c.args.at ≡ true) (sym c.deref_mut.ensures.value) (spot_in_use c.args.self.now.places.items c.args.at c.requires.there)

pub add_block_in-requires-clause-enough : goal.add_block_in-requires-clause-enough
add_block_in-requires-clause-enough c = subst (λ (ps : List Place). has_block_room ps (vec_capacity c.args.room.now) c.args.at ≡ true) (sym c.deref_mut.ensures.value) (c.requires.enough)

pub invariant_of-self : goal.invariant_of-self
invariant_of-self c =
    let len : vec_len c.args.self.now.places ≡ length c.args.self.now.places.items = omega arith in
    let k = edited_back c.args.self.now.places.items c.deref_mut.result.now c.add_block_in.new.places (vec_len c.args.self.now.places) c.args.at (with_block c.args.block) c.args.self.now.free c.deref_mut.ensures.value len c.add_block_in.ensures.with c.args.self.now.tree c.requires.there c.args.self.now.linked c.args.self.now.free_list (dir_added c.args.block) ((λ node. refl)) in
    let d = k.edited in
    let e = spot_entry c.args.self.now.places.items c.args.at c.requires.there in
    let at = node_found (links_of c.args.self.now.places.items) c.args.at (place_of (links_of c.args.self.now.places.items) c.args.at) (link_of e.0) c.args.self.now.tree (path_of_place (links_of c.args.self.now.places.items) c.args.at c.requires.there) (live_entry c.args.self.now.places.items c.args.at e.0 e.1) in
    record {
      tree = d.tree;
      linked = k.linked;
      free_list = k.list;
      counted = let n = ap block_count d.nodes in let b = count_changed _ _ (with_block c.args.block) e.0.node 1 at (blocks_added c.args.block e.0.node (file_there _ _ e.0.node at c.requires.file)) in omega (arith, c.args.self.now.counted, n, b);
      limits = subst IsWithinLimits (sym d.nodes) c.requires.limits;
    }

pub returns-clause-with : goal.returns-clause-with
returns-clause-with c =
    let len : vec_len c.args.self.now.places ≡ length c.args.self.now.places.items = omega arith in
    with_back c.args.self.now.places.items c.deref_mut.result.now c.add_block_in.new.places (vec_len c.args.self.now.places) c.args.at (with_block c.args.block) c.deref_mut.ensures.value len c.add_block_in.ensures.with

pub returns-clause-nodes : goal.returns-clause-nodes
returns-clause-nodes c =
    let len : vec_len c.args.self.now.places ≡ length c.args.self.now.places.items = omega arith in
    let k = edited_back c.args.self.now.places.items c.deref_mut.result.now c.add_block_in.new.places (vec_len c.args.self.now.places) c.args.at (with_block c.args.block) c.args.self.now.free c.deref_mut.ensures.value len c.add_block_in.ensures.with c.args.self.now.tree c.requires.there c.args.self.now.linked c.args.self.now.free_list (dir_added c.args.block) ((λ node. refl)) in
    let d = k.edited in
    d.nodes

pub returns-clause-path : goal.returns-clause-path
returns-clause-path c =
    let len : vec_len c.args.self.now.places ≡ length c.args.self.now.places.items = omega arith in
    let k = edited_back c.args.self.now.places.items c.deref_mut.result.now c.add_block_in.new.places (vec_len c.args.self.now.places) c.args.at (with_block c.args.block) c.args.self.now.free c.deref_mut.ensures.value len c.add_block_in.ensures.with c.args.self.now.tree c.requires.there c.args.self.now.linked c.args.self.now.free_list (dir_added c.args.block) ((λ node. refl)) in
    let d = k.edited in
    d.path
