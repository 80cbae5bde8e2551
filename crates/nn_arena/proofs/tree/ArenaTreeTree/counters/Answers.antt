use Rattle.nn_tree.proofs.SoundLemmas.{sound_of}
use Rattle.nn_arena.specs.Places.{links_of}
use Rattle.nn_arena.proofs.tree.ArenaTreeTree.counters.Goals as goal

pub returns-clause-sound : goal.returns-clause-sound
returns-clause-sound c = sound_of (links_of c.args.self.now.arena.places.items) c.args.self.now.counters c.args.self.now.arena.tree c.args.self.now.arena.limits c.args.self.now.in_range
