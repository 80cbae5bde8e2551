use Rattle.std.proofs.Common.{◌≡◌, ◌<◌, arith}
use Rattle.nn_arena.specs.Totals.{plus}
use Rattle.nn_arena.proofs.PlaceLemmas.{spot_in_use}
use Rattle.nn_arena.proofs.UpLemmas.{climb_starts, climb_in_use, climb_reads, climb_unchanged, climb_goes_on, climb_shorter, climb_ends, not_zero}
use Rattle.nn_arena.proofs.climb.add_up.Goals as goal

pub add_at-requires-clause-there : goal.add_at-requires-clause-there
add_at-requires-clause-there c = spot_in_use c.args.places.now c.args.at c.requires.there

pub climb-init : goal.climb-init
climb-init c = climb_starts c.args.places.now c.add_at.new.places c.args.at (plus c.args.more) c.requires.tree c.requires.there c.add_at.ensures

pub entry_in-requires : goal.entry_in-requires
entry_in-requires c = climb_in_use c.args.places.now c.climb.places c.args.at c.climb.at (plus c.args.more) c.requires.tree c.climb.invariant

pub add_at-requires-in-climb-clause-there : goal.add_at-requires-in-climb-clause-there
add_at-requires-in-climb-clause-there c =
    let below : 0 < c.climb.at = omega arith in
    climb_reads c.args.places.now c.climb.places c.args.at c.climb.at c.entry_in.result.now (plus c.args.more) c.requires.tree c.climb.invariant (not_zero c.climb.at below) c.entry_in.ensures.entry

pub add_at-requires-in-climb-clause-names : goal.add_at-requires-in-climb-clause-names
add_at-requires-in-climb-clause-names c =
    let below : 0 < c.climb.at = omega arith in
    λ e is. c.requires.names c.entry_in.result.now.parent e (climb_unchanged c.args.places.now c.climb.places c.args.at c.climb.at c.entry_in.result.now e (plus c.args.more) c.requires.tree c.climb.invariant (not_zero c.climb.at below) c.entry_in.ensures.entry is)

pub add_at-requires-in-climb-clause-space : goal.add_at-requires-in-climb-clause-space
add_at-requires-in-climb-clause-space c =
    let below : 0 < c.climb.at = omega arith in
    λ e is. c.requires.space c.entry_in.result.now.parent e (climb_unchanged c.args.places.now c.climb.places c.args.at c.climb.at c.entry_in.result.now e (plus c.args.more) c.requires.tree c.climb.invariant (not_zero c.climb.at below) c.entry_in.ensures.entry is)

pub climb-smaller : goal.climb-smaller
climb-smaller c =
    let below : 0 < c.climb.at = omega arith in
    climb_shorter c.args.places.now c.climb.places c.args.at c.climb.at c.entry_in.result.now (plus c.args.more) c.requires.tree c.climb.invariant (not_zero c.climb.at below) c.entry_in.ensures.entry

pub climb-preserved : goal.climb-preserved
climb-preserved c =
    let below : 0 < c.climb.at = omega arith in
    climb_goes_on c.args.places.now c.climb.places c.add_at-in-climb.new.places c.args.at c.climb.at c.entry_in.result.now (plus c.args.more) c.requires.tree c.climb.invariant (not_zero c.climb.at below) c.entry_in.ensures.entry c.add_at-in-climb.ensures

pub returns : goal.returns
returns c =
    let root : c.climb.at ≡ 0 = omega arith in
    climb_ends c.args.places.now c.climb.places c.args.at c.climb.at (plus c.args.more) c.requires.tree c.climb.invariant root
