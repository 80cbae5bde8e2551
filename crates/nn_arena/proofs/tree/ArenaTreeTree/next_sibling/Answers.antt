use Rattle.std.proofs.Common.{arith, Some, None}
use Rattle.nn_arena.proofs.ReadLemmas.{next_found}
use Rattle.nn_arena.proofs.tree.ArenaTreeTree.next_sibling.Goals as goal

pub returns-in-Some-clause-next : goal.returns-in-Some-clause-next
returns-in-Some-clause-next c =
    next_found c.args.self.now.arena.places.items c.args.self.now.arena.tree c.args.self.now.arena.linked c.args.at.index c.entry.result.now c.entry.ensures (Some c.in-Some.index) (omega arith) c.in-Some.is

pub returns-in-None-clause-next : goal.returns-in-None-clause-next
returns-in-None-clause-next c =
    next_found c.args.self.now.arena.places.items c.args.self.now.arena.tree c.args.self.now.arena.linked c.args.at.index c.entry.result.now c.entry.ensures None (omega arith) c.in-None.is
