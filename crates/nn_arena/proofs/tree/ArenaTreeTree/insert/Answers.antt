use Rattle.std.proofs.Common.{arith, ◌≡◌, ◌≢◌, sym, ap, subst, ◌∙◌, true, ◌∷◌, ◌++◌, [], vec_capacity, Some, None}
use Rattle.std.specs.FinMap.{get, insert}
use Rattle.nn_quota.specs.declared.quota.Usage.{Usage}
use Rattle.nn_tree.specs.declared.spot.Spot.{Spot}
use Rattle.nn_tree.specs.Namespace.{is_dir_at}
use Rattle.nn_tree.specs.Limits.{IsWithinLimits}
use Rattle.nn_tree.specs.Spots.{Keeps}
use Rattle.nn_tree.specs.Links.{Links, nodes_of, has_place, place_of}
use Rattle.nn_tree.proofs.BlocksLemmas.{space_is_small}
use Rattle.nn_arena.specs.Places.{entry_at, links_of}
use Rattle.nn_arena.specs.Totals.{IsClimbed, plus}
use Rattle.nn_arena.proofs.ClimbedLemmas.{climbed_links}
use Rattle.nn_arena.proofs.PlaceLemmas.{spot_entry, alike_link}
use Rattle.nn_arena.proofs.RangeLemmas.{totals_small, put_there}
use Rattle.nn_arena.proofs.SpareLemmas.{room_alike}
use Rattle.nn_arena.proofs.AfterLemmas.{carried_on, inserted}
use Rattle.nn_arena.proofs.tree.ArenaTreeTree.insert.Goals as goal

pub own-usage-requires : goal.own-usage-requires
own-usage-requires c =
    let n = c.requires.limits.each _ c.args.node (put_there (nodes_of (links_of c.args.self.now.arena.places.items)) _ c.args.node) in n.kind

pub add_up-requires-clause-names : goal.add_up-requires-clause-names
add_up-requires-clause-names c = λ i e is.
    let s = totals_small c.args.self.now.arena.places.items i e c.args.self.now.arena.tree c.args.self.now.arena.limits c.args.self.now.totals is in
    let few = s.names in
    let one = ap (λ (u : Usage). u.names) c.own-usage.ensures in
    omega (arith, few, one)

pub add_up-requires-clause-space : goal.add_up-requires-clause-space
add_up-requires-clause-space c = λ i e is.
    let s = totals_small c.args.self.now.arena.places.items i e c.args.self.now.arena.tree c.args.self.now.arena.limits c.args.self.now.totals is in
    let n = c.requires.limits.each _ c.args.node (put_there (nodes_of (links_of c.args.self.now.arena.places.items)) _ c.args.node) in
    let little = s.space in
    let own = ap (λ (u : Usage). u.space) c.own-usage.ensures in
    let small = space_is_small c.args.node.kind n.kind in
    omega (arith, little, own, small)

pub fill-index-requires-clause-there : goal.fill-index-requires-clause-there
fill-index-requires-clause-there c =
    let links = climbed_links c.args.self.now.arena.places.items c.add_up.new.self.places.items _ _ c.add_up.ensures.climbed in
    subst (λ (g : Links). has_place g c.args.parent.index ≡ true) (sym links) c.requires.there

pub fill-index-requires-clause-in_dir : goal.fill-index-requires-clause-in_dir
fill-index-requires-clause-in_dir c =
    let links = climbed_links c.args.self.now.arena.places.items c.add_up.new.self.places.items _ _ c.add_up.ensures.climbed in
    subst (λ (g : Links). is_dir_at (nodes_of g) (place_of g c.args.parent.index) ≡ true) (sym links) c.requires.in_dir

pub fill-index-requires-clause-free : goal.fill-index-requires-clause-free
fill-index-requires-clause-free c =
    let links = climbed_links c.args.self.now.arena.places.items c.add_up.new.self.places.items _ _ c.add_up.ensures.climbed in
    subst (λ (g : Links). get (nodes_of g) (place_of g c.args.parent.index ++ c.args.name ∷ []) ≡ None) (sym links) c.requires.free

pub fill-index-requires-clause-limits : goal.fill-index-requires-clause-limits
fill-index-requires-clause-limits c =
    let links = climbed_links c.args.self.now.arena.places.items c.add_up.new.self.places.items _ _ c.add_up.ensures.climbed in
    subst (λ (g : Links). IsWithinLimits (insert (nodes_of g) (place_of g c.args.parent.index ++ c.args.name ∷ []) c.args.node)) (sym links) c.requires.limits

pub invariant_of-self : goal.invariant_of-self
invariant_of-self c =
    let ps = c.args.self.now.arena.places.items in
    let ms = c.add_up.new.self.places.items in
    let links = climbed_links ps ms _ _ c.add_up.ensures.climbed in
    let climbed = subst (λ (u : Usage). IsClimbed ps ms (place_of (links_of ps) c.args.parent.index) (plus u)) c.own-usage.ensures c.add_up.ensures.climbed in
    record {
      totals = inserted ms c.fill-index.new.self.places.items c.fill-index.result c.args.parent.index (place_of (links_of ps) c.args.parent.index) c.args.name c.args.node c.add_up.new.self.tree
          (ap (λ (g : Links). place_of g c.args.parent.index) (sym links)) (carried_on ps ms (place_of (links_of ps) c.args.parent.index) _ c.args.self.now.totals climbed)
          (subst (λ (g : Links). get (nodes_of g) (place_of g c.args.parent.index ++ c.args.name ∷ []) ≡ None) (sym links) c.requires.free)
          c.fill-index.ensures.alike (λ e is. c.fill-index.ensures.here e is ∙ c.own-usage.ensures) c.fill-index.ensures.nodes c.fill-index.ensures.at
          (λ j has. c.fill-index.ensures.keeps.same (record { index = j }) has);
      in_range = c.args.self.now.in_range;
      empty = c.args.self.now.empty;
    }

pub returns-clause-means : goal.returns-clause-means
returns-clause-means c =
    let links = climbed_links c.args.self.now.arena.places.items c.add_up.new.self.places.items _ _ c.add_up.ensures.climbed in
    λ i. record { nodes = (c.fill-index.ensures.nodes ∙ ap (λ (g : Links). insert (nodes_of g) (place_of g c.args.parent.index ++ c.args.name ∷ []) c.args.node) links) i; counters = c.args.self.now.counters }

pub returns-clause-keeps : goal.returns-clause-keeps
returns-clause-keeps c =
    let links = climbed_links c.args.self.now.arena.places.items c.add_up.new.self.places.items _ _ c.add_up.ensures.climbed in
    subst (λ (g : Links). Keeps (λ (s : Spot). has_place g s.index) (λ s. has_place (links_of c.fill-index.new.self.places.items) s.index) (λ s. place_of g s.index) (λ s. place_of (links_of c.fill-index.new.self.places.items) s.index) (λ p. p))
    links c.fill-index.ensures.keeps

pub returns-clause-at : goal.returns-clause-at
returns-clause-at c =
    let links = climbed_links c.args.self.now.arena.places.items c.add_up.new.self.places.items _ _ c.add_up.ensures.climbed in
    c.fill-index.ensures.at ∙ ap (λ (g : Links). place_of g c.args.parent.index ++ c.args.name ∷ []) links

pub returns-clause-room : goal.returns-clause-room
returns-clause-room c = λ s had ready.
    let ps = c.args.self.now.arena.places.items in
    let ms = c.add_up.new.self.places.items in
    let qs = c.fill-index.new.self.places.items in
    let links = climbed_links ps ms _ _ c.add_up.ensures.climbed in
    let e = spot_entry ms s.index (subst (λ (g : Links). has_place g s.index ≡ true) (sym links) had) in
    let other : s.index ≢ c.fill-index.result = λ same. (let z : Some e.0 ≡ None = sym e.1 ∙ ap (entry_at ms) same ∙ c.fill-index.ensures.was_free in cc) in
    room_alike ps qs (vec_capacity c.args.self.now.room) s.index (alike_link ms qs s.index (c.fill-index.ensures.alike.each s.index other) ∙ ap (λ (g : Links). g.at s.index) links) ∙ ready
