use Rattle.std.proofs.Common.{sym, subst, List, true, ◌≡◌}
use Rattle.nn_arena.specs.declared.place.Place.{Place}
use Rattle.nn_arena.specs.Places.{in_use}
use Rattle.nn_arena.proofs.PlaceLemmas.{spot_in_use}
use Rattle.nn_arena.proofs.arena.Arena.entry.Goals as goal

pub entry_in-requires : goal.entry_in-requires
entry_in-requires c =
    subst (λ (ps : List Place). in_use ps c.args.at ≡ true) (sym c.deref.ensures.value) (spot_in_use c.args.self.now.places.items c.args.at c.requires)
