use Rattle.std.proofs.Common.{ap, ◌∙◌, sym, subst, refl, true, Some, vec_capacity}
use Rattle.std.proofs.Math.ListN.{set}
use Rattle.std.specs.List.{position}
use Rattle.nn_tree.specs.declared.entry.Entry.{Entry}
use Rattle.nn_tree.specs.Limits.{IsWithinLimits}
use Rattle.nn_tree.specs.Plain.{is_free, links_of}
use Rattle.nn_tree.proofs.FillLemmas.{Filled}
use Rattle.nn_tree.proofs.PlainLemmas.{none_free, held}
use Rattle.nn_tree.proofs.RoomLemmas.{room_other}
use Rattle.nn_tree.proofs.PlainClauses.{filled_entry, spot_apart}
use Rattle.nn_tree.proofs.plain.PlainTreeTree.insert.Goals as goal

pub unreachable-requires : goal.unreachable-requires
unreachable-requires c = none_free is_free c.args.self.now.entries.items (c.in-None.ensures.is ∙ ap (position is_free) c.deref.ensures.value) c.requires.room

pub invariant_of-self : goal.invariant_of-self
invariant_of-self c =
    let made = filled_entry c.args.self.now.entries.items c.deref.result.now c.in-Some.free (record { live = true; parent = c.args.parent.index; name = Some c.args.name; node = c.args.node }) c.deref.ensures.value c.args.self.now.tree c.in-Some.ensures.within c.in-Some.ensures.found refl c.requires.there c.used.ensures.name c.requires.in_dir c.requires.free in
    let f = subst (λ (e : Entry). Filled (links_of c.args.self.now.entries.items) (links_of (set c.args.self.now.entries.items c.in-Some.free e)) c.in-Some.free (held (record { live = true; parent = c.args.parent.index; name = Some c.args.name; node = c.args.node }))) (sym c.used.ensures.value) made in
    record { tree = f.tree; limits = subst IsWithinLimits (sym f.nodes) c.requires.limits; in_range = c.args.self.now.in_range; empty = c.args.self.now.empty }

pub returns-clause-means : goal.returns-clause-means
returns-clause-means c =
    let made = filled_entry c.args.self.now.entries.items c.deref.result.now c.in-Some.free (record { live = true; parent = c.args.parent.index; name = Some c.args.name; node = c.args.node }) c.deref.ensures.value c.args.self.now.tree c.in-Some.ensures.within c.in-Some.ensures.found refl c.requires.there c.used.ensures.name c.requires.in_dir c.requires.free in
    let f = subst (λ (e : Entry). Filled (links_of c.args.self.now.entries.items) (links_of (set c.args.self.now.entries.items c.in-Some.free e)) c.in-Some.free (held (record { live = true; parent = c.args.parent.index; name = Some c.args.name; node = c.args.node }))) (sym c.used.ensures.value) made in
    λ i. record { nodes = f.nodes i; counters = c.args.self.now.counters }

pub returns-clause-keeps : goal.returns-clause-keeps
returns-clause-keeps c =
    let made = filled_entry c.args.self.now.entries.items c.deref.result.now c.in-Some.free (record { live = true; parent = c.args.parent.index; name = Some c.args.name; node = c.args.node }) c.deref.ensures.value c.args.self.now.tree c.in-Some.ensures.within c.in-Some.ensures.found refl c.requires.there c.used.ensures.name c.requires.in_dir c.requires.free in
    let f = subst (λ (e : Entry). Filled (links_of c.args.self.now.entries.items) (links_of (set c.args.self.now.entries.items c.in-Some.free e)) c.in-Some.free (held (record { live = true; parent = c.args.parent.index; name = Some c.args.name; node = c.args.node }))) (sym c.used.ensures.value) made in
    f.keeps

pub returns-clause-spot : goal.returns-clause-spot
returns-clause-spot c =
    let made = filled_entry c.args.self.now.entries.items c.deref.result.now c.in-Some.free (record { live = true; parent = c.args.parent.index; name = Some c.args.name; node = c.args.node }) c.deref.ensures.value c.args.self.now.tree c.in-Some.ensures.within c.in-Some.ensures.found refl c.requires.there c.used.ensures.name c.requires.in_dir c.requires.free in
    let f = subst (λ (e : Entry). Filled (links_of c.args.self.now.entries.items) (links_of (set c.args.self.now.entries.items c.in-Some.free e)) c.in-Some.free (held (record { live = true; parent = c.args.parent.index; name = Some c.args.name; node = c.args.node }))) (sym c.used.ensures.value) made in
    f.spot

pub returns-clause-at : goal.returns-clause-at
returns-clause-at c =
    let made = filled_entry c.args.self.now.entries.items c.deref.result.now c.in-Some.free (record { live = true; parent = c.args.parent.index; name = Some c.args.name; node = c.args.node }) c.deref.ensures.value c.args.self.now.tree c.in-Some.ensures.within c.in-Some.ensures.found refl c.requires.there c.used.ensures.name c.requires.in_dir c.requires.free in
    let f = subst (λ (e : Entry). Filled (links_of c.args.self.now.entries.items) (links_of (set c.args.self.now.entries.items c.in-Some.free e)) c.in-Some.free (held (record { live = true; parent = c.args.parent.index; name = Some c.args.name; node = c.args.node }))) (sym c.used.ensures.value) made in
    f.at

pub returns-clause-room : goal.returns-clause-room
returns-clause-room c = λ s had ready.
    room_other c.args.self.now.entries.items c.in-Some.free c.used.result (vec_capacity c.args.self.now.room) s.index (spot_apart c.args.self.now.entries.items c.deref.result.now c.in-Some.free s.index c.deref.ensures.value c.in-Some.ensures.found c.in-Some.ensures.within had) ∙ ready
