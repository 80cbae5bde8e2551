-- The room for a block at each place.
use Rattle.std.proofs.Common.{◌≡◌, ℕ, ◌<◌, true, inl, inr, List, length, Option, Some, None, refl, sym, ap, ◌∙◌, arith}
use Rattle.std.specs.Prelude.{nat_lt, option_map}
use Rattle.std.specs.Option.{option_map_or}
use Rattle.std.proofs.lemmas.Bool.{cases_eq}
use Rattle.std.proofs.lemmas.Bool.Decides.{nat_tests}
use Rattle.nn_tree.specs.declared.node.Node.{Node}
use Rattle.nn_tree.specs.Nodes.{blocks_of}
use Rattle.nn_tree.specs.Links.{Link, has_place}
use Rattle.nn_arena.specs.declared.place.Entry.{Entry}
use Rattle.nn_arena.specs.declared.place.Place.{Place}
use Rattle.nn_arena.specs.declared.place.Place.TheVariants.{Used}
use Rattle.nn_arena.specs.Places.{entry_at, link_of, links_of, IsWith}
use Rattle.nn_arena.specs.Changes.{KeepNodes}
use Rattle.nn_arena.specs.Room.{blocks_in, has_block_room}
use Rattle.nn_arena.proofs.PlaceLemmas.{spot_entry, with_here, with_other}

-- it is told by the links
blocks_linked : (o : Option Entry) → option_map_or blocks_in o 0 ≡ option_map_or (λ (l : Link). length (blocks_of l.node.kind)) (option_map link_of o) 0
blocks_linked None = refl
blocks_linked (Some e) = refl

pub room_alike : (ps qs : List Place) (room i : ℕ) → (links_of qs).at i ≡ (links_of ps).at i → has_block_room qs room i ≡ has_block_room ps room i
room_alike ps qs room i same =
    ap (λ n. nat_lt n room) (blocks_linked (entry_at qs i) ∙ ap (λ o. option_map_or (λ (l : Link). length (blocks_of l.node.kind)) o 0) same ∙ sym (blocks_linked (entry_at ps i)))

pub room_kept : (ps qs : List Place) (room i : ℕ) → KeepNodes ps qs → has_place (links_of qs) i ≡ true → has_block_room qs room i ≡ has_block_room ps room i
room_kept ps qs room i keep has =
    let e = spot_entry qs i has in
    let d = keep i e.0 e.1 in
    ap (λ o. nat_lt (option_map_or blocks_in o 0) room) e.1 ∙ ap (λ (n : Node). nat_lt (length (blocks_of n.kind)) room) d.3 ∙ sym (ap (λ o. nat_lt (option_map_or blocks_in o 0) room) d.1)

-- where as many blocks stand as before
pub room_with : (ps qs : List Place) (i : ℕ) (o e : Entry) (room j : ℕ) → entry_at ps i ≡ Some o → IsWith ps qs i (Used e) → blocks_in e ≡ blocks_in o → has_block_room qs room j ≡ has_block_room ps room j
room_with ps qs i o e room j there set blocks = elim (cases_eq j i) as (λ _. has_block_room qs room j ≡ has_block_room ps room j) [
  | inl here ↦
      ap (λ o. nat_lt (option_map_or blocks_in o 0) room) (ap (entry_at qs) here ∙ with_here ps qs i (Used e) set) ∙ ap (λ n. nat_lt n room) blocks
      ∙ sym (ap (λ o. nat_lt (option_map_or blocks_in o 0) room) (ap (entry_at ps) here ∙ there))
  | inr other ↦ ap (λ o. nat_lt (option_map_or blocks_in o 0) room) (with_other ps qs i j (Used e) set other)
]

pub room_made : (ps : List Place) (room i n : ℕ) (e : Entry) → entry_at ps i ≡ Some e → n ≡ blocks_in e → n < room → has_block_room ps room i ≡ true
room_made ps room i n e is count lt = ap (λ o. nat_lt (option_map_or blocks_in o 0) room) is ∙ ap (λ n. nat_lt n room) (sym count) ∙ grind (arith, nat_tests, lt)
