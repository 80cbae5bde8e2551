use Rattle.std.proofs.Common.{arith}
use Rattle.nn_tree.specs.Links.{place_of}
use Rattle.nn_tree.proofs.LinksLemmas.{node_found, path_of_place}
use Rattle.nn_arena.specs.Places.{links_of, link_of}
use Rattle.nn_arena.proofs.PlaceLemmas.{live_entry}
use Rattle.nn_arena.proofs.arena.Arena.weigh.Goals as goal

pub space-new-requires : goal.space-new-requires
space-new-requires c =
    let e = c.entry.result.now in
    let at = node_found (links_of c.args.self.now.places.items) c.args.at (place_of (links_of c.args.self.now.places.items) c.args.at) (link_of e) c.args.self.now.tree (path_of_place (links_of c.args.self.now.places.items) c.args.at c.requires.there) (live_entry c.args.self.now.places.items c.args.at e c.entry.ensures) in
    let n = c.args.self.now.limits.each _ e.node at in
    n.kind

pub add_up-requires-clause-names : goal.add_up-requires-clause-names
add_up-requires-clause-names c = λ i e is. let n = c.requires.names i e is in omega arith
