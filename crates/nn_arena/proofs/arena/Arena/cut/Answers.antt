use Rattle.nn_arena.proofs.RemoveLemmas.{cleared_has, removed_kept, removed_nodes, removed_spots}
use Rattle.nn_arena.proofs.arena.Arena.cut.Goals as goal

pub free_leaf-requires-clause-there : goal.free_leaf-requires-clause-there
free_leaf-requires-clause-there c = cleared_has c.args.self.now.places.items c.clear_below.new.self.places.items c.args.at c.clear_below.ensures.cleared c.requires.there c.clear_below.new.self.tree

pub returns-clause-nodes : goal.returns-clause-nodes
returns-clause-nodes c =
    removed_nodes c.args.self.now.places.items c.clear_below.new.self.places.items c.free_leaf.new.self.places.items c.args.at c.args.self.now.tree c.requires.there c.clear_below.ensures.cleared c.free_leaf.ensures.alike c.free_leaf.ensures.free c.requires.below_root

pub returns-clause-kept : goal.returns-clause-kept
returns-clause-kept c =
    removed_kept c.args.self.now.places.items c.clear_below.new.self.places.items c.free_leaf.new.self.places.items c.args.at c.args.self.now.tree c.requires.there c.clear_below.ensures.cleared c.free_leaf.ensures.alike c.free_leaf.ensures.free

pub returns-clause-removes : goal.returns-clause-removes
returns-clause-removes c =
    removed_spots c.args.self.now.places.items c.clear_below.new.self.places.items c.free_leaf.new.self.places.items c.args.at c.args.self.now.tree c.requires.there c.clear_below.ensures.cleared c.free_leaf.ensures.alike c.free_leaf.ensures.free c.requires.below_root
