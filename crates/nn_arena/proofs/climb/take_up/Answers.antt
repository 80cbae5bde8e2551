use Rattle.std.proofs.Common.{◌≡◌, ◌<◌, arith}
use Rattle.nn_tree.specs.Links.{place_of}
use Rattle.nn_tree.proofs.PrefixLemmas.{under_itself}
use Rattle.nn_arena.specs.Places.{links_of}
use Rattle.nn_arena.specs.Totals.{less}
use Rattle.nn_arena.proofs.PlaceLemmas.{spot_in_use}
use Rattle.nn_arena.proofs.UpLemmas.{climb_starts, climb_in_use, climb_reads, climb_unchanged, climb_over, climb_goes_on, climb_shorter, climb_ends, not_zero}
use Rattle.nn_arena.proofs.climb.take_up.Goals as goal

pub take_at-requires-clause-there : goal.take_at-requires-clause-there
take_at-requires-clause-there c = spot_in_use c.args.places.now c.args.at c.requires.there

pub climb-init : goal.climb-init
climb-init c = climb_starts c.args.places.now c.take_at.new.places c.args.at (less c.args.gone) c.requires.tree c.requires.there c.take_at.ensures

pub entry_in-requires : goal.entry_in-requires
entry_in-requires c = climb_in_use c.args.places.now c.climb.places c.args.at c.climb.at (less c.args.gone) c.requires.tree c.climb.invariant

pub take_at-requires-in-climb-clause-there : goal.take_at-requires-in-climb-clause-there
take_at-requires-in-climb-clause-there c =
    let below : 0 < c.climb.at = omega arith in
    climb_reads c.args.places.now c.climb.places c.args.at c.climb.at c.entry_in.result.now (less c.args.gone) c.requires.tree c.climb.invariant (not_zero c.climb.at below) c.entry_in.ensures.entry

pub take_at-requires-clause-names : goal.take_at-requires-clause-names
take_at-requires-clause-names c = λ e is. c.requires.names c.args.at e is (under_itself (place_of (links_of c.args.places.now) c.args.at))

pub take_at-requires-in-climb-clause-names : goal.take_at-requires-in-climb-clause-names
take_at-requires-in-climb-clause-names c =
    let below : 0 < c.climb.at = omega arith in
    λ e is. c.requires.names c.entry_in.result.now.parent e (climb_unchanged c.args.places.now c.climb.places c.args.at c.climb.at c.entry_in.result.now e (less c.args.gone) c.requires.tree c.climb.invariant (not_zero c.climb.at below) c.entry_in.ensures.entry is)
    (climb_over c.args.places.now c.climb.places c.args.at c.climb.at c.entry_in.result.now (less c.args.gone) c.requires.tree c.climb.invariant (not_zero c.climb.at below) c.entry_in.ensures.entry)

pub take_at-requires-clause-space : goal.take_at-requires-clause-space
take_at-requires-clause-space c = λ e is. c.requires.space c.args.at e is (under_itself (place_of (links_of c.args.places.now) c.args.at))

pub take_at-requires-in-climb-clause-space : goal.take_at-requires-in-climb-clause-space
take_at-requires-in-climb-clause-space c =
    let below : 0 < c.climb.at = omega arith in
    λ e is. c.requires.space c.entry_in.result.now.parent e (climb_unchanged c.args.places.now c.climb.places c.args.at c.climb.at c.entry_in.result.now e (less c.args.gone) c.requires.tree c.climb.invariant (not_zero c.climb.at below) c.entry_in.ensures.entry is)
    (climb_over c.args.places.now c.climb.places c.args.at c.climb.at c.entry_in.result.now (less c.args.gone) c.requires.tree c.climb.invariant (not_zero c.climb.at below) c.entry_in.ensures.entry)

pub climb-smaller : goal.climb-smaller
climb-smaller c =
    let below : 0 < c.climb.at = omega arith in
    climb_shorter c.args.places.now c.climb.places c.args.at c.climb.at c.entry_in.result.now (less c.args.gone) c.requires.tree c.climb.invariant (not_zero c.climb.at below) c.entry_in.ensures.entry

pub climb-preserved : goal.climb-preserved
climb-preserved c =
    let below : 0 < c.climb.at = omega arith in
    climb_goes_on c.args.places.now c.climb.places c.take_at-in-climb.new.places c.args.at c.climb.at c.entry_in.result.now (less c.args.gone) c.requires.tree c.climb.invariant (not_zero c.climb.at below) c.entry_in.ensures.entry c.take_at-in-climb.ensures

pub returns : goal.returns
returns c =
    let root : c.climb.at ≡ 0 = omega arith in
    climb_ends c.args.places.now c.climb.places c.args.at c.climb.at (less c.args.gone) c.requires.tree c.climb.invariant root
