use Rattle.nn_tree.specs.Namespace.{node_count}
use Rattle.nn_tree.specs.Links.{nodes_of}
use Rattle.nn_arena.specs.Places.{links_of}
use Rattle.nn_arena.proofs.ClearLemmas.{clearing_starts, clearing_down, down_shorter, clearing_below_root, clearing_up, up_shorter, clearing_ends}
use Rattle.nn_arena.proofs.arena.Arena.clear_below.Goals as goal

pub walk-init : goal.walk-init
walk-init c = record { clearing = clearing_starts c.args.self.now.places.items c.args.top c.requires; room = λ room. room }

pub walk-smaller-in-Some : goal.walk-smaller-in-Some
walk-smaller-in-Some c =
    down_shorter c.args.self.now.places.items c.walk.self.places.items c.args.top c.walk.at c.args.self.now.tree c.requires c.walk.self.tree c.walk.invariant.clearing
    c.entry.result.now c.in-Some.child c.walk.self.linked c.entry.ensures c.in-Some.is (node_count (nodes_of (links_of c.walk.self.places.items)))

pub walk-preserved-in-Some : goal.walk-preserved-in-Some
walk-preserved-in-Some c = record {
  clearing = clearing_down c.args.self.now.places.items c.walk.self.places.items c.args.top c.walk.at c.args.self.now.tree c.requires c.walk.self.tree c.walk.invariant.clearing
      c.entry.result.now c.in-Some.child c.walk.self.linked c.entry.ensures c.in-Some.is;
  room = c.walk.invariant.room;
}

pub returns-then-at-top-clause-cleared : goal.returns-then-at-top-clause-cleared
returns-then-at-top-clause-cleared c =
    clearing_ends c.args.self.now.places.items c.walk.self.places.items c.args.top c.walk.at c.args.self.now.tree c.requires c.walk.self.tree c.walk.invariant.clearing
    c.entry.result.now c.if-at-top.true c.walk.self.linked c.entry.ensures c.in-None.is

pub free_leaf-requires-clause-below_root : goal.free_leaf-requires-clause-below_root
free_leaf-requires-clause-below_root c =
    clearing_below_root c.args.self.now.places.items c.walk.self.places.items c.args.top c.walk.at c.args.self.now.tree c.requires c.walk.self.tree c.walk.invariant.clearing c.if-at-top.false

pub walk-smaller : goal.walk-smaller
walk-smaller c =
    up_shorter c.args.self.now.places.items c.walk.self.places.items c.args.top c.walk.at c.args.self.now.tree c.requires c.walk.self.tree c.walk.invariant.clearing
    c.entry-in-None.result.now c.free_leaf.new.self.places.items c.if-at-top.false c.entry-in-None.ensures c.free_leaf.ensures.alike c.free_leaf.ensures.free c.free_leaf.new.self.tree c.free_leaf.ensures.fewer

pub walk-preserved : goal.walk-preserved
walk-preserved c = record {
  clearing = clearing_up c.args.self.now.places.items c.walk.self.places.items c.args.top c.walk.at c.args.self.now.tree c.requires c.walk.self.tree c.walk.invariant.clearing
      c.entry-in-None.result.now c.free_leaf.new.self.places.items c.if-at-top.false c.entry-in-None.ensures c.free_leaf.ensures.alike c.free_leaf.ensures.free c.free_leaf.new.self.tree;
  room = λ room. c.free_leaf.ensures.grown;
}
