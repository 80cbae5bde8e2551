-- Room for a block: a list that takes one more than those of the node at i.
use Rattle.std.specs.Prelude.{ℕ, Bool, nat_lt, List, length}
use Rattle.std.specs.Option.{option_map_or}
use Rattle.nn_tree.specs.Nodes.{blocks_of}
use Rattle.nn_arena.specs.declared.place.Entry.{Entry}
use Rattle.nn_arena.specs.declared.place.Place.{Place}
use Rattle.nn_arena.specs.Places.{entry_at}

abbrev pub blocks_in : Entry → ℕ
blocks_in e = length (blocks_of e.node.kind)

abbrev pub has_block_room : List Place → ℕ → ℕ → Bool
has_block_room ps room i = nat_lt (option_map_or blocks_in (entry_at ps i) 0) room
