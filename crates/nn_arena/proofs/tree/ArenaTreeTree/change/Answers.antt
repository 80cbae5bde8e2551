use Rattle.std.proofs.Common.{arith, ◌≡◌, sym, ap, subst, ◌∙◌, true, is_some, unwrap_or, [], vec_capacity, ℕ}
use Rattle.nn_base.specs.Paths.{is_under}
use Rattle.nn_quota.specs.declared.quota.Usage.{Usage}
use Rattle.nn_tree.specs.Nodes.{space_of}
use Rattle.nn_tree.specs.Changes.{changed}
use Rattle.nn_tree.specs.Links.{Links, path_at, nodes_of, place_of}
use Rattle.nn_tree.proofs.PlainClauses.{blocks_changed}
use Rattle.nn_arena.specs.declared.place.Place.TheVariants.{Used}
use Rattle.nn_arena.specs.Places.{links_of}
use Rattle.nn_arena.specs.Totals.{IsClimbed, reweighed}
use Rattle.nn_arena.proofs.ClimbedLemmas.{climbed_links}
use Rattle.nn_arena.proofs.PlaceLemmas.{with_here, spot_entry}
use Rattle.nn_arena.proofs.KeptLemmas.{stays_climbed}
use Rattle.nn_arena.proofs.RangeLemmas.{totals_small, kind_at}
use Rattle.nn_arena.proofs.AboveLemmas.{space_above}
use Rattle.nn_arena.proofs.SpareLemmas.{room_alike, room_with}
use Rattle.nn_arena.proofs.WeighLemmas.{set_from, changed as totals_changed}
use Rattle.nn_arena.proofs.tree.ArenaTreeTree.change.Goals as goal

pub space-old-requires : goal.space-old-requires
space-old-requires c = kind_at c.args.self.now.arena.places.items c.args.at.index c.entry.result.now c.args.self.now.arena.tree c.args.self.now.arena.limits c.entry.ensures

pub weigh-requires-clause-names : goal.weigh-requires-clause-names
weigh-requires-clause-names c = λ i e is.
    let d = set_from c.args.self.now.arena.places.items c.change-2.new.self.places.items c.args.at.index c.entry.result.now _ c.entry.ensures (c.change-2.ensures.with c.entry.result.now c.entry.ensures) i e is in
    let s = totals_small c.args.self.now.arena.places.items i d.0 c.args.self.now.arena.tree c.args.self.now.arena.limits c.args.self.now.totals d.1 in
    let few = s.names in
    let same = ap (λ (u : Usage). u.names) d.2 in
    omega (arith, few, same)

pub weigh-requires-clause-space : goal.weigh-requires-clause-space
weigh-requires-clause-space c = λ i e is.
    let d = set_from c.args.self.now.arena.places.items c.change-2.new.self.places.items c.args.at.index c.entry.result.now _ c.entry.ensures (c.change-2.ensures.with c.entry.result.now c.entry.ensures) i e is in
    let s = totals_small c.args.self.now.arena.places.items i d.0 c.args.self.now.arena.tree c.args.self.now.arena.limits c.args.self.now.totals d.1 in
    let little = s.space in
    let same = ap (λ (u : Usage). u.space) d.2 in
    omega (arith, little, same)

pub weigh-requires-clause-enough : goal.weigh-requires-clause-enough
weigh-requires-clause-enough c = λ i e is above.
    let d = set_from c.args.self.now.arena.places.items c.change-2.new.self.places.items c.args.at.index c.entry.result.now _ c.entry.ensures (c.change-2.ensures.with c.entry.result.now c.entry.ensures) i e is in
    let over : is_under (place_of (links_of c.args.self.now.arena.places.items) i) (place_of (links_of c.args.self.now.arena.places.items) c.args.at.index) ≡ true =
    ap (λ (p : ℕ → _). is_under (unwrap_or (p i) []) (unwrap_or (p c.args.at.index) [])) (sym c.change-2.ensures.path) ∙ above in
    let s = space_above c.args.self.now.arena.places.items c.args.at.index c.entry.result.now i d.0 c.args.self.now.arena.tree c.args.self.now.totals c.entry.ensures d.1 over in
    let same = ap (λ (u : Usage). u.space) d.2 in
    let old = c.space-old.ensures in
    omega (arith, s, same, old)

pub invariant_of-self-2 : goal.invariant_of-self-2
invariant_of-self-2 c =
    let ps = c.args.self.now.arena.places.items in
    let ms = c.change-2.new.self.places.items in
    let o = c.entry.result.now in
    let set = c.change-2.ensures.with o c.entry.ensures in
    let climbed = c.weigh.ensures.climbed (record o { node = changed c.args.change o.node }) (with_here ps ms c.args.at.index (Used (record o { node = changed c.args.change o.node })) set) in
    record {
      totals = totals_changed ps ms c.weigh.new.self.places.items c.args.at.index o (changed c.args.change) c.args.self.now.arena.tree c.args.self.now.totals c.entry.ensures set c.change-2.ensures.nodes c.change-2.ensures.path
          (subst (λ n. IsClimbed ms c.weigh.new.self.places.items (place_of (links_of ms) c.args.at.index) (reweighed n (space_of (changed c.args.change o.node).kind))) c.space-old.ensures climbed);
      in_range = c.args.self.now.in_range;
      empty = c.args.self.now.empty;
    }

pub returns-clause-means : goal.returns-clause-means
returns-clause-means c =
    let o = c.entry.result.now in
    let ms = c.change-2.new.self.places.items in
    let here = with_here c.args.self.now.arena.places.items ms c.args.at.index (Used (record o { node = changed c.args.change o.node })) (c.change-2.ensures.with o c.entry.ensures) in
    let links = climbed_links ms c.weigh.new.self.places.items _ _ (c.weigh.ensures.climbed (record o { node = changed c.args.change o.node }) here) in
    λ i. record { nodes = (ap nodes_of links ∙ c.change-2.ensures.nodes) i; counters = c.args.self.now.counters }

pub returns-clause-has : goal.returns-clause-has
returns-clause-has c =
    let o = c.entry.result.now in
    let ms = c.change-2.new.self.places.items in
    let here = with_here c.args.self.now.arena.places.items ms c.args.at.index (Used (record o { node = changed c.args.change o.node })) (c.change-2.ensures.with o c.entry.ensures) in
    let links = climbed_links ms c.weigh.new.self.places.items _ _ (c.weigh.ensures.climbed (record o { node = changed c.args.change o.node }) here) in
    λ i s. is_some ((ap path_at links ∙ c.change-2.ensures.path) i s.index)

pub returns-clause-place : goal.returns-clause-place
returns-clause-place c =
    let o = c.entry.result.now in
    let ms = c.change-2.new.self.places.items in
    let here = with_here c.args.self.now.arena.places.items ms c.args.at.index (Used (record o { node = changed c.args.change o.node })) (c.change-2.ensures.with o c.entry.ensures) in
    let links = climbed_links ms c.weigh.new.self.places.items _ _ (c.weigh.ensures.climbed (record o { node = changed c.args.change o.node }) here) in
    λ i s. unwrap_or ((ap path_at links ∙ c.change-2.ensures.path) i s.index) []

pub returns-clause-room : goal.returns-clause-room
returns-clause-room c =
    let o = c.entry.result.now in
    let ps = c.args.self.now.arena.places.items in
    let ms = c.change-2.new.self.places.items in
    let set = c.change-2.ensures.with o c.entry.ensures in
    let here = with_here ps ms c.args.at.index (Used (record o { node = changed c.args.change o.node })) set in
    let links = climbed_links ms c.weigh.new.self.places.items _ _ (c.weigh.ensures.climbed (record o { node = changed c.args.change o.node }) here) in
    let free = c.weigh.ensures.room ∙ c.change-2.ensures.room in
    λ i. record {
      node = is_some (free i);
      block = λ s.
          (room_alike ms c.weigh.new.self.places.items (vec_capacity c.args.self.now.room) s.index (ap (λ (g : Links). g.at s.index) links)
          ∙ room_with ps ms c.args.at.index o (record o { node = changed c.args.change o.node }) (vec_capacity c.args.self.now.room) s.index c.entry.ensures set (blocks_changed c.args.change o.node)) i;
    }

pub invariant_of-self : goal.invariant_of-self
invariant_of-self c =
    let ps = c.args.self.now.arena.places.items in
    let ms = c.change.new.self.places.items in
    let o = spot_entry ps c.args.at.index c.requires.there in
    let same = c.keeps_space.ensures c.if-keeps_space.true o.0.node in
    record {
      totals = totals_changed ps ms ms c.args.at.index o.0 (changed c.args.change) c.args.self.now.arena.tree c.args.self.now.totals o.1 (c.change.ensures.with o.0 o.1) c.change.ensures.nodes c.change.ensures.path
          (stays_climbed ms (place_of (links_of ms) c.args.at.index) (space_of o.0.node.kind) (space_of (changed c.args.change o.0.node).kind) (sym same));
      in_range = c.args.self.now.in_range;
      empty = c.args.self.now.empty;
    }

pub returns-then-keeps_space-clause-room : goal.returns-then-keeps_space-clause-room
returns-then-keeps_space-clause-room c =
    let ps = c.args.self.now.arena.places.items in
    let ms = c.change.new.self.places.items in
    let o = spot_entry ps c.args.at.index c.requires.there in
    λ i. record {
      node = is_some (c.change.ensures.room i);
      block = λ s.
          room_with ps ms c.args.at.index o.0 (record o.0 { node = changed c.args.change o.0.node }) (vec_capacity c.args.self.now.room) s.index o.1 (c.change.ensures.with o.0 o.1) (blocks_changed c.args.change o.0.node) i;
    }
