use Rattle.nn_arena.proofs.tree.ArenaTreeTree.usage.Goals as goal

pub returns : goal.returns
returns c = c.args.self.now.totals c.args.at.index c.entry.result.now c.entry.ensures
