use Rattle.nn_arena.specs.declared.place.Entry.{Entry}
use Rattle.nn_arena.specs.declared.place.Place.{Place}
use Rattle.nn_arena.specs.declared.place.Place.TheVariants.{Used}
use Rattle.std.proofs.Common.{List, ◌≡◌, ◌<◌, arith, length, Some, None, sym, ap, ◌∙◌, ℕ, refl}
use Rattle.std.proofs.lemmas.Option.{slice_get_read}
use Rattle.nn_arena.specs.Places.{entry_at, entry_of}
use Rattle.nn_arena.proofs.PlaceLemmas.{entry_read}
use Rattle.nn_arena.proofs.FillLemmas.{first_free}
use Rattle.nn_arena.proofs.arena.Arena.next_free.Goals as goal

pub index-requires : goal.index-requires
index-requires c =
    let within : c.args.at < length c.args.self.now.places.items = (let f = first_free c.args.self.now.places.items c.args.self.now.free c.args.at c.args.self.now.free_list c.requires in f.within) in
    omega (arith, within)

pub unreachable-requires : goal.unreachable-requires
unreachable-requires c =
    let within : c.args.at < length c.args.self.now.places.items = (let f = first_free c.args.self.now.places.items c.args.self.now.free c.args.at c.args.self.now.free_list c.requires in f.within) in
    let read = slice_get_read c.args.self.now.places.items _ c.args.at c.index.result.now refl within c.index.ensures in
    let used = entry_read c.args.self.now.places.items c.args.at c.index.result.now read in
    let f = first_free c.args.self.now.places.items c.args.self.now.free c.args.at c.args.self.now.free_list c.requires in
    not_used c.args.self.now.places.items c.args.at c.index.result.now c.in-Used.field-0 c.in-Used.is used f.none
  where
    not_used : (ps : List Place) (i : ℕ) (p : Place) (e : Entry) → p ≡ Used e → entry_at ps i ≡ entry_of p → entry_at ps i ≡ None → ⊥
    not_used ps i p e is used free = let z : Some e ≡ None = ap entry_of (sym is) ∙ sym used ∙ free in cc

pub returns : goal.returns
returns c =
    let within : c.args.at < length c.args.self.now.places.items = (let f = first_free c.args.self.now.places.items c.args.self.now.free c.args.at c.args.self.now.free_list c.requires in f.within) in
    slice_get_read c.args.self.now.places.items _ c.args.at c.index.result.now refl within c.index.ensures ∙ ap Some c.in-Free.is
