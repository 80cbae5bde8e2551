use Rattle.nn_tree.specs.Plain.{links_of}
use Rattle.nn_tree.proofs.SoundLemmas.{sound_of}
use Rattle.nn_tree.proofs.plain.PlainTreeTree.counters.Goals as goal

pub returns-clause-sound : goal.returns-clause-sound
returns-clause-sound c = sound_of (links_of c.args.self.now.entries.items) c.args.self.now.counters c.args.self.now.tree c.args.self.now.limits c.args.self.now.in_range
