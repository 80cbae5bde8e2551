use Rattle.std.proofs.Common.{◌≡◌, ◌≢◌, sym, ap, subst, ◌∙◌, true, [], ◌∷◌, ◌++◌, vec_capacity}
use Rattle.nn_tree.specs.declared.spot.Spot.{Spot}
use Rattle.nn_tree.specs.Changes.{cut}
use Rattle.nn_tree.specs.Spots.{Removes}
use Rattle.nn_tree.specs.Links.{Links, nodes_of, has_place, place_of}
use Rattle.nn_arena.specs.Places.{links_of}
use Rattle.nn_arena.proofs.ClimbedLemmas.{climbed_links}
use Rattle.nn_arena.proofs.AboveLemmas.{dir_of, gone_above}
use Rattle.nn_arena.proofs.SpareLemmas.{room_alike, room_kept}
use Rattle.nn_arena.proofs.AfterLemmas.{usage_at, carried_on, removed}
use Rattle.nn_arena.proofs.tree.ArenaTreeTree.remove.Goals as goal

pub take_up-requires-clause-there : goal.take_up-requires-clause-there
take_up-requires-clause-there c =
    (dir_of c.args.self.now.arena.places.items c.args.at.index c.entry-entry.result.now c.args.self.now.arena.tree c.entry-entry.ensures c.requires.below_root).0

pub take_up-requires-clause-names : goal.take_up-requires-clause-names
take_up-requires-clause-names c = λ j e is above.
    let d = dir_of c.args.self.now.arena.places.items c.args.at.index c.entry-entry.result.now c.args.self.now.arena.tree c.entry-entry.ensures c.requires.below_root in
    let m = gone_above c.args.self.now.arena.places.items c.args.at.index c.entry-entry.result.now.parent d.1.0 c.entry-entry.result.now j e c.args.self.now.totals c.entry-entry.ensures d.1.1 is above in
    m.names

pub take_up-requires-clause-space : goal.take_up-requires-clause-space
take_up-requires-clause-space c = λ j e is above.
    let d = dir_of c.args.self.now.arena.places.items c.args.at.index c.entry-entry.result.now c.args.self.now.arena.tree c.entry-entry.ensures c.requires.below_root in
    let m = gone_above c.args.self.now.arena.places.items c.args.at.index c.entry-entry.result.now.parent d.1.0 c.entry-entry.result.now j e c.args.self.now.totals c.entry-entry.ensures d.1.1 is above in
    m.space

pub cut-requires-clause-there : goal.cut-requires-clause-there
cut-requires-clause-there c =
    let links = climbed_links c.args.self.now.arena.places.items c.take_up.new.self.places.items _ _ c.take_up.ensures.climbed in
    subst (λ (g : Links). has_place g c.args.at.index ≡ true) (sym links) c.requires.there

pub cut-requires-clause-below_root : goal.cut-requires-clause-below_root
cut-requires-clause-below_root c =
    let links = climbed_links c.args.self.now.arena.places.items c.take_up.new.self.places.items _ _ c.take_up.ensures.climbed in
    subst (λ (g : Links). place_of g c.args.at.index ≢ []) (sym links) c.requires.below_root

pub invariant_of-self : goal.invariant_of-self
invariant_of-self c =
    let ps = c.args.self.now.arena.places.items in
    let ms = c.take_up.new.self.places.items in
    let o = c.entry-entry.result.now in
    let q = place_of (links_of ps) o.parent in
    let links = climbed_links ps ms _ _ c.take_up.ensures.climbed in
    let d = dir_of ps c.args.at.index o c.args.self.now.arena.tree c.entry-entry.ensures c.requires.below_root in
    record {
      totals = removed ms c.cut.new.self.places.items c.args.at.index o.parent q d.1.0 o.usage c.take_up.new.self.tree c.cut.new.self.tree
          (ap (λ (g : Links). place_of g o.parent) (sym links)) (subst (λ (g : Links). place_of g c.args.at.index ≡ place_of g o.parent ++ d.1.0 ∷ []) (sym links) d.1.1)
          (c.args.self.now.totals c.args.at.index o c.entry-entry.ensures ∙ ap (λ (g : Links). usage_at g c.args.at.index) (sym links))
          (carried_on ps ms q _ c.args.self.now.totals c.take_up.ensures.climbed) c.cut.ensures.kept c.cut.ensures.nodes c.cut.ensures.removes;
      in_range = c.args.self.now.in_range;
      empty = c.args.self.now.empty;
    }

pub returns-clause-means : goal.returns-clause-means
returns-clause-means c =
    let links = climbed_links c.args.self.now.arena.places.items c.take_up.new.self.places.items _ _ c.take_up.ensures.climbed in
    λ i. record { nodes = (c.cut.ensures.nodes ∙ ap (λ (g : Links). cut (place_of g c.args.at.index) (nodes_of g)) links) i; counters = c.args.self.now.counters }

pub returns-clause-removes : goal.returns-clause-removes
returns-clause-removes c =
    let links = climbed_links c.args.self.now.arena.places.items c.take_up.new.self.places.items _ _ c.take_up.ensures.climbed in
    subst (λ (g : Links). Removes (place_of g c.args.at.index) (λ (s : Spot). has_place g s.index) (λ s. has_place (links_of c.cut.new.self.places.items) s.index) (λ s. place_of g s.index) (λ s. place_of (links_of c.cut.new.self.places.items) s.index))
    links c.cut.ensures.removes

pub returns-clause-room : goal.returns-clause-room
returns-clause-room c =
    let ps = c.args.self.now.arena.places.items in
    let ms = c.take_up.new.self.places.items in
    let links = climbed_links ps ms _ _ c.take_up.ensures.climbed in
    record {
      node = λ ready. c.cut.ensures.room;
      block = λ s has ready.
          room_kept ms c.cut.new.self.places.items (vec_capacity c.args.self.now.room) s.index c.cut.ensures.kept has
          ∙ room_alike ps ms (vec_capacity c.args.self.now.room) s.index (ap (λ (g : Links). g.at s.index) links) ∙ ready;
    }
