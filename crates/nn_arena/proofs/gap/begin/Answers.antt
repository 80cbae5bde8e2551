use Rattle.nn_arena.proofs.GapLemmas.{walk_from}
use Rattle.nn_arena.proofs.gap.begin.Goals as goal

pub returns-in-Some : goal.returns-in-Some
returns-in-Some c = walk_from c.args.places.now c.args.parent c.args.name.now c.in-Some.at c.entry_in.result.now c.requires.linked c.in-Some.ensures c.entry_in.ensures.entry
