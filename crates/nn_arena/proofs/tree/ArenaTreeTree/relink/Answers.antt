use Rattle.std.proofs.Common.{arith, ◌≡◌, ◌≢◌, sym, ap, subst, ◌∙◌, true, false, [], ◌∷◌, ◌++◌, is_some, vec_capacity, None}
use Rattle.std.specs.FinMap.{get}
use Rattle.nn_base.specs.Paths.{is_under}
use Rattle.nn_quota.specs.declared.quota.Usage.{Usage}
use Rattle.nn_tree.specs.declared.spot.Spot.{Spot}
use Rattle.nn_tree.specs.Namespace.{is_dir_at}
use Rattle.nn_tree.specs.Changes.{move, moved}
use Rattle.nn_tree.specs.Spots.{Keeps}
use Rattle.nn_tree.specs.Links.{Links, nodes_of, has_place, place_of}
use Rattle.nn_arena.specs.Places.{links_of}
use Rattle.nn_arena.proofs.ClimbedLemmas.{climbed_links}
use Rattle.nn_arena.proofs.AboveLemmas.{dir_of, gone_above}
use Rattle.nn_arena.proofs.RangeLemmas.{totals_small, carried_small}
use Rattle.nn_arena.proofs.SpareLemmas.{room_alike, room_kept}
use Rattle.nn_arena.proofs.AfterLemmas.{usage_at, carried_on}
use Rattle.nn_arena.proofs.WeighLemmas.{relinked}
use Rattle.nn_arena.proofs.tree.ArenaTreeTree.relink.Goals as goal

pub take_up-requires-clause-there : goal.take_up-requires-clause-there
take_up-requires-clause-there c =
    (dir_of c.args.self.now.arena.places.items c.args.at.index c.entry-entry.result.now c.args.self.now.arena.tree c.entry-entry.ensures c.requires.below_root).0

pub take_up-requires-clause-names : goal.take_up-requires-clause-names
take_up-requires-clause-names c = λ j e is above.
    let d = dir_of c.args.self.now.arena.places.items c.args.at.index c.entry-entry.result.now c.args.self.now.arena.tree c.entry-entry.ensures c.requires.below_root in
    let m = gone_above c.args.self.now.arena.places.items c.args.at.index c.entry-entry.result.now.parent d.1.0 c.entry-entry.result.now j e c.args.self.now.totals c.entry-entry.ensures d.1.1 is above in
    m.names

pub take_up-requires-clause-space : goal.take_up-requires-clause-space
take_up-requires-clause-space c = λ j e is above.
    let d = dir_of c.args.self.now.arena.places.items c.args.at.index c.entry-entry.result.now c.args.self.now.arena.tree c.entry-entry.ensures c.requires.below_root in
    let m = gone_above c.args.self.now.arena.places.items c.args.at.index c.entry-entry.result.now.parent d.1.0 c.entry-entry.result.now j e c.args.self.now.totals c.entry-entry.ensures d.1.1 is above in
    m.space

pub relink-requires-clause-there : goal.relink-requires-clause-there
relink-requires-clause-there c =
    let links = climbed_links c.args.self.now.arena.places.items c.take_up.new.self.places.items _ _ c.take_up.ensures.climbed in
    subst (λ (g : Links). has_place g c.args.at.index ≡ true) (sym links) c.requires.there

pub relink-requires-clause-below_root : goal.relink-requires-clause-below_root
relink-requires-clause-below_root c =
    let links = climbed_links c.args.self.now.arena.places.items c.take_up.new.self.places.items _ _ c.take_up.ensures.climbed in
    subst (λ (g : Links). place_of g c.args.at.index ≢ []) (sym links) c.requires.below_root

pub relink-requires-clause-to : goal.relink-requires-clause-to
relink-requires-clause-to c =
    let links = climbed_links c.args.self.now.arena.places.items c.take_up.new.self.places.items _ _ c.take_up.ensures.climbed in
    subst (λ (g : Links). has_place g c.args.parent.index ≡ true) (sym links) c.requires.to

pub relink-requires-clause-in_dir : goal.relink-requires-clause-in_dir
relink-requires-clause-in_dir c =
    let links = climbed_links c.args.self.now.arena.places.items c.take_up.new.self.places.items _ _ c.take_up.ensures.climbed in
    subst (λ (g : Links). is_dir_at (nodes_of g) (place_of g c.args.parent.index) ≡ true) (sym links) c.requires.in_dir

pub relink-requires-clause-outside : goal.relink-requires-clause-outside
relink-requires-clause-outside c =
    let links = climbed_links c.args.self.now.arena.places.items c.take_up.new.self.places.items _ _ c.take_up.ensures.climbed in
    subst (λ (g : Links). is_under (place_of g c.args.at.index) (place_of g c.args.parent.index) ≡ false) (sym links) c.requires.outside

pub relink-requires-clause-free : goal.relink-requires-clause-free
relink-requires-clause-free c =
    let links = climbed_links c.args.self.now.arena.places.items c.take_up.new.self.places.items _ _ c.take_up.ensures.climbed in
    subst (λ (g : Links). get (nodes_of g) (place_of g c.args.parent.index ++ c.args.name ∷ []) ≡ None) (sym links) c.requires.free

pub add_up-requires-clause-there : goal.add_up-requires-clause-there
add_up-requires-clause-there c =
    let links = climbed_links c.args.self.now.arena.places.items c.take_up.new.self.places.items _ _ c.take_up.ensures.climbed in
    c.relink.ensures.keeps.stays (record { index = c.args.parent.index }) (subst (λ (g : Links). has_place g c.args.parent.index ≡ true) (sym links) c.requires.to)

pub add_up-requires-clause-names : goal.add_up-requires-clause-names
add_up-requires-clause-names c = λ j e is.
    let ps = c.args.self.now.arena.places.items in
    let ms = c.take_up.new.self.places.items in
    let o = c.entry-entry.result.now in
    let k = c.relink.ensures.kept j e is in
    let was = carried_small ms (place_of (links_of ps) o.parent) o.usage j k.0 c.take_up.new.self.tree c.take_up.new.self.limits (carried_on ps ms _ _ c.args.self.now.totals c.take_up.ensures.climbed) k.1 in
    let own = totals_small ps c.args.at.index o c.args.self.now.arena.tree c.args.self.now.arena.limits c.args.self.now.totals c.entry-entry.ensures in
    let a = was.names in
    let b = own.names in
    let same = ap (λ (u : Usage). u.names) k.2 in
    omega (arith, a, b, same)

pub add_up-requires-clause-space : goal.add_up-requires-clause-space
add_up-requires-clause-space c = λ j e is.
    let ps = c.args.self.now.arena.places.items in
    let ms = c.take_up.new.self.places.items in
    let o = c.entry-entry.result.now in
    let k = c.relink.ensures.kept j e is in
    let was = carried_small ms (place_of (links_of ps) o.parent) o.usage j k.0 c.take_up.new.self.tree c.take_up.new.self.limits (carried_on ps ms _ _ c.args.self.now.totals c.take_up.ensures.climbed) k.1 in
    let own = totals_small ps c.args.at.index o c.args.self.now.arena.tree c.args.self.now.arena.limits c.args.self.now.totals c.entry-entry.ensures in
    let a = was.space in
    let b = own.space in
    let same = ap (λ (u : Usage). u.space) k.2 in
    omega (arith, a, b, same)

pub invariant_of-self : goal.invariant_of-self
invariant_of-self c =
    let ps = c.args.self.now.arena.places.items in
    let ms = c.take_up.new.self.places.items in
    let o = c.entry-entry.result.now in
    let q = place_of (links_of ps) o.parent in
    let links = climbed_links ps ms _ _ c.take_up.ensures.climbed in
    let d = dir_of ps c.args.at.index o c.args.self.now.arena.tree c.entry-entry.ensures c.requires.below_root in
    record {
      totals = relinked ms c.relink.new.self.places.items c.add_up.new.self.places.items c.args.at.index o.parent c.args.parent.index q d.1.0 c.args.name o.usage c.take_up.new.self.tree c.relink.new.self.tree
          (ap (λ (g : Links). place_of g o.parent) (sym links)) (subst (λ (g : Links). place_of g c.args.at.index ≡ place_of g o.parent ++ d.1.0 ∷ []) (sym links) d.1.1)
          (c.args.self.now.totals c.args.at.index o c.entry-entry.ensures ∙ ap (λ (g : Links). usage_at g c.args.at.index) (sym links))
          (carried_on ps ms q _ c.args.self.now.totals c.take_up.ensures.climbed) c.relink.ensures.kept c.relink.ensures.slots
          (subst (λ (g : Links). get (nodes_of g) (place_of g c.args.parent.index ++ c.args.name ∷ []) ≡ None) (sym links) c.requires.free)
          (subst (λ (g : Links). is_under (place_of g c.args.at.index) (place_of g c.args.parent.index) ≡ false) (sym links) c.requires.outside)
          (subst (λ (g : Links). has_place g c.args.parent.index ≡ true) (sym links) c.requires.to) c.relink.ensures.keeps c.add_up.ensures.climbed;
      in_range = c.args.self.now.in_range;
      empty = c.args.self.now.empty;
    }

pub returns-clause-means : goal.returns-clause-means
returns-clause-means c =
    let links = climbed_links c.args.self.now.arena.places.items c.take_up.new.self.places.items _ _ c.take_up.ensures.climbed in
    let again = climbed_links c.relink.new.self.places.items c.add_up.new.self.places.items _ _ c.add_up.ensures.climbed in
    λ i. record { nodes = (ap nodes_of again ∙ c.relink.ensures.nodes ∙ ap (λ (g : Links). move (place_of g c.args.at.index) (place_of g c.args.parent.index ++ c.args.name ∷ []) (nodes_of g)) links) i; counters = c.args.self.now.counters }

pub returns-clause-keeps : goal.returns-clause-keeps
returns-clause-keeps c =
    let links = climbed_links c.args.self.now.arena.places.items c.take_up.new.self.places.items _ _ c.take_up.ensures.climbed in
    let again = climbed_links c.relink.new.self.places.items c.add_up.new.self.places.items _ _ c.add_up.ensures.climbed in
    subst (λ (h : Links). Keeps (λ (s : Spot). has_place (links_of c.args.self.now.arena.places.items) s.index) (λ s. has_place h s.index) (λ s. place_of (links_of c.args.self.now.arena.places.items) s.index) (λ s. place_of h s.index)
    (moved (place_of (links_of c.args.self.now.arena.places.items) c.args.at.index) (place_of (links_of c.args.self.now.arena.places.items) c.args.parent.index ++ c.args.name ∷ []))) (sym again)
    (subst (λ (g : Links). Keeps (λ (s : Spot). has_place g s.index) (λ s. has_place (links_of c.relink.new.self.places.items) s.index) (λ s. place_of g s.index) (λ s. place_of (links_of c.relink.new.self.places.items) s.index)
    (moved (place_of g c.args.at.index) (place_of g c.args.parent.index ++ c.args.name ∷ []))) links c.relink.ensures.keeps)

pub returns-clause-room : goal.returns-clause-room
returns-clause-room c =
    let ps = c.args.self.now.arena.places.items in
    let ms = c.take_up.new.self.places.items in
    let ns = c.relink.new.self.places.items in
    let qs = c.add_up.new.self.places.items in
    let links = climbed_links ps ms _ _ c.take_up.ensures.climbed in
    let again = climbed_links ns qs _ _ c.add_up.ensures.climbed in
    record {
      node = λ ready. ap is_some (c.add_up.ensures.room ∙ c.relink.ensures.room ∙ c.take_up.ensures.room) ∙ ready;
      block = λ s has ready.
          room_alike ns qs (vec_capacity c.args.self.now.room) s.index (ap (λ (g : Links). g.at s.index) again)
          ∙ room_kept ms ns (vec_capacity c.args.self.now.room) s.index c.relink.ensures.kept (subst (λ (g : Links). has_place g s.index ≡ true) again has)
          ∙ room_alike ps ms (vec_capacity c.args.self.now.room) s.index (ap (λ (g : Links). g.at s.index) links) ∙ ready;
    }
