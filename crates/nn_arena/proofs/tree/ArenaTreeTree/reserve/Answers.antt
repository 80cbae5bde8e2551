use Rattle.std.proofs.Common.{arith}
use Rattle.nn_arena.proofs.RangeLemmas.{kind_at}
use Rattle.nn_arena.proofs.ReadLemmas.{grown}
use Rattle.nn_arena.proofs.tree.ArenaTreeTree.reserve.Goals as goal

pub make_room-requires-clause-few : goal.make_room-requires-clause-few
make_room-requires-clause-few c =
    let k = kind_at c.args.self.now.arena.places.items c.args.at.index c.entry.result.now c.args.self.now.arena.tree c.args.self.now.arena.limits c.entry.ensures in
    let few = k.few in
    let count = c.block_count-count.ensures in
    omega (arith, few, count)

pub invariant_of-self-2 : goal.invariant_of-self-2
invariant_of-self-2 c = record {
  totals = grown c.args.self.now.arena.places.items c.grow.new.self.places.items c.grow.ensures.same c.grow.ensures.path c.grow.ensures.nodes c.args.self.now.totals;
  in_range = c.args.self.now.in_range;
  empty = c.make_room.ensures.empty;
}
