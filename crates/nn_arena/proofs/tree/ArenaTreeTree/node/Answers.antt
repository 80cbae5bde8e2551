use Rattle.nn_arena.proofs.AfterLemmas.{there_at}
use Rattle.nn_arena.proofs.tree.ArenaTreeTree.node.Goals as goal

pub returns : goal.returns
returns c = there_at c.args.self.now.arena.places.items c.args.at.index c.entry.result.now c.args.self.now.arena.tree c.entry.ensures
