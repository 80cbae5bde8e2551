use Rattle.std.proofs.Common.{◌≡◌, ◌<◌, ℕ, true, false, [], List, length, Some, None, sym, ap, subst, ◌∙◌, arith}
use Rattle.std.specs.Prelude.{vec_len}
use Rattle.nn_tree.specs.Namespace.{block_count}
use Rattle.nn_tree.specs.Nodes.{blocks_of}
use Rattle.nn_tree.specs.Limits.{IsWithinLimits}
use Rattle.nn_tree.specs.Plain.{is_child, IsLeast}
use Rattle.nn_tree.proofs.LinksLemmas.{paths_total}
use Rattle.nn_tree.proofs.TotalsLemmas.{total-insert}
use Rattle.nn_tree.specs.declared.node.Node.{Node}
use Rattle.nn_arena.specs.declared.place.Place.{Place}
use Rattle.nn_arena.specs.Places.{links_of, in_use}
use Rattle.nn_arena.specs.Children.{AreNamed, AreApart}
use Rattle.nn_arena.proofs.PlaceLemmas.{spot_in_use}
use Rattle.nn_arena.proofs.TakenLemmas.{tree_named, tree_apart}
use Rattle.nn_arena.proofs.FillLemmas.{first_free, free_below_root, free_childless, no_child, filled_back, list_back}
use Rattle.nn_arena.proofs.arena.Arena.fill.Goals as goal

pub put-requires-clause-named : goal.put-requires-clause-named
put-requires-clause-named c =
    subst (λ (ps : List Place). AreNamed (links_of ps)) (sym c.deref_mut.ensures.value) (tree_named (links_of c.args.self.now.places.items) c.args.self.now.tree)

pub put-requires-clause-apart : goal.put-requires-clause-apart
put-requires-clause-apart c =
    subst (λ (ps : List Place). AreApart (links_of ps)) (sym c.deref_mut.ensures.value) (tree_apart (links_of c.args.self.now.places.items) c.args.self.now.tree)

pub put-requires-clause-within : goal.put-requires-clause-within
put-requires-clause-within c =
    let f = first_free c.args.self.now.places.items c.args.self.now.free c.in-Some.at c.args.self.now.free_list c.in-Some.is in
    subst (λ (ps : List Place). c.in-Some.at < length ps) (sym c.deref_mut.ensures.value) (f.within)

pub put-requires-clause-below_root : goal.put-requires-clause-below_root
put-requires-clause-below_root c =
    let f = first_free c.args.self.now.places.items c.args.self.now.free c.in-Some.at c.args.self.now.free_list c.in-Some.is in
    free_below_root c.args.self.now.places.items c.in-Some.at c.args.self.now.tree f.none

pub put-requires-clause-parent : goal.put-requires-clause-parent
put-requires-clause-parent c =
    subst (λ (ps : List Place). in_use ps c.args.parent ≡ true) (sym c.deref_mut.ensures.value) (spot_in_use c.args.self.now.places.items c.args.parent c.requires.there)

pub put-requires-clause-children : goal.put-requires-clause-children
put-requires-clause-children c =
    let f = first_free c.args.self.now.places.items c.args.self.now.free c.in-Some.at c.args.self.now.free_list c.in-Some.is in
    subst (λ (ps : List Place). IsLeast (links_of ps) c.in-Some.at [] (length ps) None) (sym c.deref_mut.ensures.value) (free_childless c.args.self.now.places.items c.in-Some.at c.args.self.now.tree f.none)

pub put-requires-clause-new : goal.put-requires-clause-new
put-requires-clause-new c =
    subst (λ (ps : List Place). (k : ℕ) → k < length ps → is_child (links_of ps) c.args.parent c.args.name k ≡ false) (sym c.deref_mut.ensures.value) (λ k _. no_child (links_of c.args.self.now.places.items) c.args.parent c.args.name c.args.self.now.tree c.requires.there c.requires.free k)

pub invariant_of-self-2 : goal.invariant_of-self-2
invariant_of-self-2 c =
    let f = first_free c.args.self.now.places.items c.args.self.now.free c.in-Some.at c.args.self.now.free_list c.in-Some.is in
    let len : vec_len c.args.self.now.places ≡ length c.args.self.now.places.items = omega arith in
    let d = filled_back c.args.self.now.places.items c.deref_mut.result.now c.put.new.places (vec_len c.args.self.now.places) c.in-Some.at (record { parent = c.args.parent; first = None; next = None; name = Some c.args.name; node = c.args.node; usage = c.args.usage }) c.deref_mut.ensures.value len c.args.self.now.tree f c.put.ensures c.requires.there c.bytes-bytes.ensures.name c.requires.in_dir c.requires.free in
    let m = d.filled in
    record {
      tree = m.tree;
      linked = d.linked;
      free_list = list_back c.args.self.now.places.items c.deref_mut.result.now c.put.new.places (vec_len c.args.self.now.places) c.in-Some.at (record { parent = c.args.parent; first = None; next = None; name = Some c.args.name; node = c.args.node; usage = c.args.usage }) c.args.self.now.free c.next_free-self.result c.deref_mut.ensures.value len c.put.ensures c.in-Some.is c.next_free-self.ensures c.args.self.now.free_list;
      counted =
          let t = ap block_count m.nodes ∙ total-insert _ paths_total (λ p (node : Node). length (blocks_of node.kind)) _ _ c.args.node c.requires.free in
          omega (arith, c.args.self.now.counted, c.block_count.ensures, t);
      limits = subst IsWithinLimits (sym m.nodes) c.requires.limits;
    }

pub returns-clause-nodes : goal.returns-clause-nodes
returns-clause-nodes c =
    let f = first_free c.args.self.now.places.items c.args.self.now.free c.in-Some.at c.args.self.now.free_list c.in-Some.is in
    let len : vec_len c.args.self.now.places ≡ length c.args.self.now.places.items = omega arith in
    let d = filled_back c.args.self.now.places.items c.deref_mut.result.now c.put.new.places (vec_len c.args.self.now.places) c.in-Some.at (record { parent = c.args.parent; first = None; next = None; name = Some c.args.name; node = c.args.node; usage = c.args.usage }) c.deref_mut.ensures.value len c.args.self.now.tree f c.put.ensures c.requires.there c.bytes-bytes.ensures.name c.requires.in_dir c.requires.free in
    let m = d.filled in
    m.nodes

pub returns-clause-spot : goal.returns-clause-spot
returns-clause-spot c =
    let f = first_free c.args.self.now.places.items c.args.self.now.free c.in-Some.at c.args.self.now.free_list c.in-Some.is in
    let len : vec_len c.args.self.now.places ≡ length c.args.self.now.places.items = omega arith in
    let d = filled_back c.args.self.now.places.items c.deref_mut.result.now c.put.new.places (vec_len c.args.self.now.places) c.in-Some.at (record { parent = c.args.parent; first = None; next = None; name = Some c.args.name; node = c.args.node; usage = c.args.usage }) c.deref_mut.ensures.value len c.args.self.now.tree f c.put.ensures c.requires.there c.bytes-bytes.ensures.name c.requires.in_dir c.requires.free in
    let m = d.filled in
    m.spot

pub returns-clause-at : goal.returns-clause-at
returns-clause-at c =
    let f = first_free c.args.self.now.places.items c.args.self.now.free c.in-Some.at c.args.self.now.free_list c.in-Some.is in
    let len : vec_len c.args.self.now.places ≡ length c.args.self.now.places.items = omega arith in
    let d = filled_back c.args.self.now.places.items c.deref_mut.result.now c.put.new.places (vec_len c.args.self.now.places) c.in-Some.at (record { parent = c.args.parent; first = None; next = None; name = Some c.args.name; node = c.args.node; usage = c.args.usage }) c.deref_mut.ensures.value len c.args.self.now.tree f c.put.ensures c.requires.there c.bytes-bytes.ensures.name c.requires.in_dir c.requires.free in
    let m = d.filled in
    m.at

pub returns-clause-keeps : goal.returns-clause-keeps
returns-clause-keeps c =
    let f = first_free c.args.self.now.places.items c.args.self.now.free c.in-Some.at c.args.self.now.free_list c.in-Some.is in
    let len : vec_len c.args.self.now.places ≡ length c.args.self.now.places.items = omega arith in
    let d = filled_back c.args.self.now.places.items c.deref_mut.result.now c.put.new.places (vec_len c.args.self.now.places) c.in-Some.at (record { parent = c.args.parent; first = None; next = None; name = Some c.args.name; node = c.args.node; usage = c.args.usage }) c.deref_mut.ensures.value len c.args.self.now.tree f c.put.ensures c.requires.there c.bytes-bytes.ensures.name c.requires.in_dir c.requires.free in
    let m = d.filled in
    m.keeps
