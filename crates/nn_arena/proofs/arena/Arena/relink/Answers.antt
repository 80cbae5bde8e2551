use Rattle.std.proofs.Common.{◌≡◌, List, length, Some, refl, ap, ◌∙◌, arith}
use Rattle.nn_arena.specs.declared.place.Place.{Place}
use Rattle.nn_arena.specs.Places.{in_use}
use Rattle.nn_arena.proofs.PlaceLemmas.{spot_in_use}
use Rattle.nn_arena.proofs.MovedLemmas.{between_named, between_apart, between_within, between_in_use, between_new, relinked_in}
use Rattle.nn_arena.proofs.arena.Arena.relink.Goals as goal

pub take-moving-requires-clause-there : goal.take-moving-requires-clause-there
take-moving-requires-clause-there c = ap (λ (zs : List Place). in_use zs c.args.at) c.deref_mut.ensures.value ∙ spot_in_use c.args.self.now.places.items c.args.at c.requires.there

pub put-requires-clause-named : goal.put-requires-clause-named
put-requires-clause-named c =
    let n : c.args.self.now.places.len ≡ length c.args.self.now.places.items = omega arith in
    between_named c.args.self.now.places.len c.args.self.now.places.items c.deref_mut.result.now c.take-moving.new.places c.deref_mut-2.result.now c.args.at c.take-moving.result c.deref_mut.ensures.value n c.deref_mut-2.ensures.value c.args.self.now.tree c.take-moving.ensures.entry c.take-moving.ensures.taken

pub put-requires-clause-apart : goal.put-requires-clause-apart
put-requires-clause-apart c =
    let n : c.args.self.now.places.len ≡ length c.args.self.now.places.items = omega arith in
    between_apart c.args.self.now.places.len c.args.self.now.places.items c.deref_mut.result.now c.take-moving.new.places c.deref_mut-2.result.now c.args.at c.take-moving.result c.deref_mut.ensures.value n c.deref_mut-2.ensures.value c.args.self.now.tree c.take-moving.ensures.entry c.take-moving.ensures.taken

pub put-requires-clause-within : goal.put-requires-clause-within
put-requires-clause-within c =
    let n : c.args.self.now.places.len ≡ length c.args.self.now.places.items = omega arith in
    between_within c.args.self.now.places.len c.args.self.now.places.items c.deref_mut.result.now c.take-moving.new.places c.deref_mut-2.result.now c.args.at c.take-moving.result c.deref_mut.ensures.value n c.deref_mut-2.ensures.value c.args.self.now.tree c.take-moving.ensures.entry c.take-moving.ensures.taken

pub put-requires-clause-parent : goal.put-requires-clause-parent
put-requires-clause-parent c =
    let n : c.args.self.now.places.len ≡ length c.args.self.now.places.items = omega arith in
    between_in_use c.args.self.now.places.len c.args.self.now.places.items c.deref_mut.result.now c.take-moving.new.places c.deref_mut-2.result.now c.args.at c.take-moving.result c.deref_mut.ensures.value n c.deref_mut-2.ensures.value c.args.self.now.tree c.take-moving.ensures.entry c.take-moving.ensures.taken
    c.args.parent c.requires.to c.requires.outside

pub put-requires-clause-new : goal.put-requires-clause-new
put-requires-clause-new c =
    let n : c.args.self.now.places.len ≡ length c.args.self.now.places.items = omega arith in
    λ k lt. between_new c.args.self.now.places.len c.args.self.now.places.items c.deref_mut.result.now c.take-moving.new.places c.deref_mut-2.result.now c.args.at c.take-moving.result c.deref_mut.ensures.value n c.deref_mut-2.ensures.value c.args.self.now.tree c.take-moving.ensures.entry c.take-moving.ensures.taken
    c.args.parent c.args.name c.requires.to c.requires.free k

pub invariant_of-self : goal.invariant_of-self
invariant_of-self c =
    let n : c.args.self.now.places.len ≡ length c.args.self.now.places.items = omega arith in
    let k = relinked_in c.args.self.now.places.len c.args.self.now.places.items c.deref_mut.result.now c.take-moving.new.places c.deref_mut-2.result.now c.args.at c.take-moving.result c.deref_mut.ensures.value n c.deref_mut-2.ensures.value c.args.self.now.tree c.take-moving.ensures.entry c.take-moving.ensures.taken
    c.put.new.places (record { parent = c.args.parent; first = c.take-moving.result.first; next = c.take-moving.result.next; name = Some c.args.name; node = c.take-moving.result.node; usage = c.take-moving.result.usage })
    c.args.self.now.free c.put.ensures refl refl c.args.self.now.free_list c.args.self.now.limits c.requires.there c.requires.below_root c.requires.to c.bytes-bytes.ensures.name c.requires.in_dir c.requires.outside c.requires.free in
    let m = k.moved in
    record { tree = m.tree; linked = k.linked; free_list = k.list; counted = let b = k.counted in omega arith; limits = k.limits }

pub returns : goal.returns
returns c =
    let n : c.args.self.now.places.len ≡ length c.args.self.now.places.items = omega arith in
    let k = relinked_in c.args.self.now.places.len c.args.self.now.places.items c.deref_mut.result.now c.take-moving.new.places c.deref_mut-2.result.now c.args.at c.take-moving.result c.deref_mut.ensures.value n c.deref_mut-2.ensures.value c.args.self.now.tree c.take-moving.ensures.entry c.take-moving.ensures.taken
    c.put.new.places (record { parent = c.args.parent; first = c.take-moving.result.first; next = c.take-moving.result.next; name = Some c.args.name; node = c.take-moving.result.node; usage = c.take-moving.result.usage })
    c.args.self.now.free c.put.ensures refl refl c.args.self.now.free_list c.args.self.now.limits c.requires.there c.requires.below_root c.requires.to c.bytes-bytes.ensures.name c.requires.in_dir c.requires.outside c.requires.free in
    let m = k.moved in
    record { nodes = m.nodes; slots = m.slots; kept = k.kept; keeps = m.keeps; room = refl }
