use Rattle.std.proofs.Common.{◌≡◌, List, length, refl, ap, ◌∙◌, arith}
use Rattle.nn_arena.specs.declared.place.Place.{Place}
use Rattle.nn_arena.specs.Places.{in_use}
use Rattle.nn_arena.proofs.PlaceLemmas.{spot_in_use, spot_entry, entry_within}
use Rattle.nn_arena.proofs.FreedLemmas.{freed_in}
use Rattle.nn_arena.proofs.arena.Arena.free_leaf.Goals as goal

pub take-gone-requires-clause-there : goal.take-gone-requires-clause-there
take-gone-requires-clause-there c = ap (λ (zs : List Place). in_use zs c.args.at) c.deref_mut.ensures.value ∙ spot_in_use c.args.self.now.places.items c.args.at c.requires.there

pub overflow_sub-self : goal.overflow_sub-self
overflow_sub-self c =
    let n : c.args.self.now.places.len ≡ length c.args.self.now.places.items = omega arith in
    let k = freed_in c.args.self.now.places.len c.args.self.now.places.items c.deref_mut.result.now c.take-gone.new.places c.args.at c.take-gone.result c.args.self.now.free c.deref_mut.ensures.value n
    c.args.self.now.tree c.args.self.now.linked c.args.self.now.free_list c.args.self.now.limits c.requires.there c.requires.below_root c.requires.leaf c.take-gone.ensures.entry c.take-gone.ensures.taken in
    let b = k.counted in omega arith

pub index_mut-requires : goal.index_mut-requires
index_mut-requires c = let e = spot_entry c.args.self.now.places.items c.args.at c.requires.there in omega (arith, entry_within c.args.self.now.places.items c.args.at e.0 e.1)

pub invariant_of-self : goal.invariant_of-self
invariant_of-self c =
    let n : c.args.self.now.places.len ≡ length c.args.self.now.places.items = omega arith in
    let k = freed_in c.args.self.now.places.len c.args.self.now.places.items c.deref_mut.result.now c.take-gone.new.places c.args.at c.take-gone.result c.args.self.now.free c.deref_mut.ensures.value n
    c.args.self.now.tree c.args.self.now.linked c.args.self.now.free_list c.args.self.now.limits c.requires.there c.requires.below_root c.requires.leaf c.take-gone.ensures.entry c.take-gone.ensures.taken in
    record { tree = k.tree; linked = k.linked; free_list = k.list; counted = let b = k.counted in omega arith; limits = k.limits }

pub returns : goal.returns
returns c =
    let n : c.args.self.now.places.len ≡ length c.args.self.now.places.items = omega arith in
    let k = freed_in c.args.self.now.places.len c.args.self.now.places.items c.deref_mut.result.now c.take-gone.new.places c.args.at c.take-gone.result c.args.self.now.free c.deref_mut.ensures.value n
    c.args.self.now.tree c.args.self.now.linked c.args.self.now.free_list c.args.self.now.limits c.requires.there c.requires.below_root c.requires.leaf c.take-gone.ensures.entry c.take-gone.ensures.taken in
    record { alike = k.alike; free = k.free; grown = refl; fewer = k.fewer }
