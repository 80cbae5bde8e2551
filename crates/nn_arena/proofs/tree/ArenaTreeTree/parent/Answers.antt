use Rattle.std.proofs.Common.{arith, ◌≡◌, suc, ◌-◌}
use Rattle.nn_tree.proofs.SoundLemmas.{parent_of}
use Rattle.nn_arena.specs.Places.{link_of, links_of}
use Rattle.nn_arena.proofs.PlaceLemmas.{live_entry}
use Rattle.nn_arena.proofs.tree.ArenaTreeTree.parent.Goals as goal

pub returns-else-at-eq0 : goal.returns-else-at-eq0
returns-else-at-eq0 c =
    let below_root : c.args.at.index ≡ suc (c.args.at.index - 1) = omega arith in
    parent_of (links_of c.args.self.now.arena.places.items) c.args.at.index (c.args.at.index - 1) (link_of c.entry.result.now) c.args.self.now.arena.tree below_root
    (live_entry c.args.self.now.arena.places.items c.args.at.index c.entry.result.now c.entry.ensures)
