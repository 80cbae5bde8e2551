use Rattle.std.proofs.Common.{◌≡◌, length, List, true, sym, ap, subst, arith}
use Rattle.std.specs.Prelude.{vec_len}
use Rattle.nn_tree.specs.Namespace.{block_count}
use Rattle.nn_tree.specs.Limits.{IsWithinLimits}
use Rattle.nn_tree.specs.Links.{place_of}
use Rattle.nn_tree.specs.Changes.{changed}
use Rattle.nn_tree.proofs.LinksLemmas.{node_found, path_of_place}
use Rattle.nn_tree.proofs.PlainClauses.{blocks_changed}
use Rattle.nn_arena.specs.declared.place.Place.{Place}
use Rattle.nn_arena.specs.Places.{links_of, link_of, in_use}
use Rattle.nn_arena.proofs.PlaceLemmas.{spot_entry, spot_in_use, live_entry}
use Rattle.nn_arena.proofs.KeptLemmas.{edited_back, with_back}
use Rattle.nn_arena.proofs.SortLemmas.{dir_changed, id_changed, count_changed}
use Rattle.nn_arena.proofs.arena.Arena.change.Goals as goal

pub change_in-requires : goal.change_in-requires
change_in-requires c = subst (λ (ps : List Place). in_use ps c.args.at ≡ true) (sym c.deref_mut.ensures.value) (spot_in_use c.args.self.now.places.items c.args.at c.requires.there)

pub invariant_of-self : goal.invariant_of-self
invariant_of-self c =
    let len : vec_len c.args.self.now.places ≡ length c.args.self.now.places.items = omega arith in
    let k = edited_back c.args.self.now.places.items c.deref_mut.result.now c.change_in.new.places (vec_len c.args.self.now.places) c.args.at (changed c.args.change) c.args.self.now.free c.deref_mut.ensures.value len c.change_in.ensures c.args.self.now.tree c.requires.there c.args.self.now.linked c.args.self.now.free_list (dir_changed c.args.change) (id_changed c.args.change) in
    let d = k.edited in
    let e = spot_entry c.args.self.now.places.items c.args.at c.requires.there in
    let at = node_found (links_of c.args.self.now.places.items) c.args.at (place_of (links_of c.args.self.now.places.items) c.args.at) (link_of e.0) c.args.self.now.tree (path_of_place (links_of c.args.self.now.places.items) c.args.at c.requires.there) (live_entry c.args.self.now.places.items c.args.at e.0 e.1) in
    record {
      tree = d.tree;
      linked = k.linked;
      free_list = k.list;
      counted = let n = ap block_count d.nodes in let b = count_changed _ _ (changed c.args.change) e.0.node 0 at (let b = blocks_changed c.args.change e.0.node in omega arith) in omega (arith, c.args.self.now.counted, n, b);
      limits = subst IsWithinLimits (sym d.nodes) c.requires.limits;
    }

pub returns-clause-with : goal.returns-clause-with
returns-clause-with c =
    let len : vec_len c.args.self.now.places ≡ length c.args.self.now.places.items = omega arith in
    with_back c.args.self.now.places.items c.deref_mut.result.now c.change_in.new.places (vec_len c.args.self.now.places) c.args.at (changed c.args.change) c.deref_mut.ensures.value len c.change_in.ensures

pub returns-clause-nodes : goal.returns-clause-nodes
returns-clause-nodes c =
    let len : vec_len c.args.self.now.places ≡ length c.args.self.now.places.items = omega arith in
    let k = edited_back c.args.self.now.places.items c.deref_mut.result.now c.change_in.new.places (vec_len c.args.self.now.places) c.args.at (changed c.args.change) c.args.self.now.free c.deref_mut.ensures.value len c.change_in.ensures c.args.self.now.tree c.requires.there c.args.self.now.linked c.args.self.now.free_list (dir_changed c.args.change) (id_changed c.args.change) in
    let d = k.edited in
    d.nodes

pub returns-clause-path : goal.returns-clause-path
returns-clause-path c =
    let len : vec_len c.args.self.now.places ≡ length c.args.self.now.places.items = omega arith in
    let k = edited_back c.args.self.now.places.items c.deref_mut.result.now c.change_in.new.places (vec_len c.args.self.now.places) c.args.at (changed c.args.change) c.args.self.now.free c.deref_mut.ensures.value len c.change_in.ensures c.args.self.now.tree c.requires.there c.args.self.now.linked c.args.self.now.free_list (dir_changed c.args.change) (id_changed c.args.change) in
    let d = k.edited in
    d.path
