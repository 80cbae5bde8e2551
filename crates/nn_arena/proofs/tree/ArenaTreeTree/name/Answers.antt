use Rattle.std.proofs.Common.{◌∙◌}
use Rattle.nn_tree.proofs.SoundLemmas.{name_of_spot}
use Rattle.nn_arena.specs.Places.{link_of, links_of}
use Rattle.nn_arena.proofs.PlaceLemmas.{live_entry}
use Rattle.nn_arena.proofs.tree.ArenaTreeTree.name.Goals as goal

pub returns : goal.returns
returns c =
    c.name.ensures ∙ name_of_spot (links_of c.args.self.now.arena.places.items) c.args.at.index (link_of c.entry.result.now) c.args.self.now.arena.tree
    (live_entry c.args.self.now.arena.places.items c.args.at.index c.entry.result.now c.entry.ensures)
