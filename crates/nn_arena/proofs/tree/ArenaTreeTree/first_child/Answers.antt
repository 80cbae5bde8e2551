use Rattle.std.proofs.Common.{Some, None}
use Rattle.nn_arena.proofs.ReadLemmas.{first_found}
use Rattle.nn_arena.proofs.tree.ArenaTreeTree.first_child.Goals as goal

pub returns-in-Some : goal.returns-in-Some
returns-in-Some c = first_found c.args.self.now.arena.places.items c.args.self.now.arena.tree c.args.self.now.arena.linked c.args.at.index c.entry.result.now c.entry.ensures (Some c.in-Some.index) c.in-Some.is

pub returns-in-None : goal.returns-in-None
returns-in-None c = first_found c.args.self.now.arena.places.items c.args.self.now.arena.tree c.args.self.now.arena.linked c.args.at.index c.entry.result.now c.entry.ensures None c.in-None.is
