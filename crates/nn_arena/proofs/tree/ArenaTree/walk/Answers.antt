use Rattle.std.proofs.Common.{arith, take, sym, ap, ◌∙◌, Some, ◌≡◌, length, ◌<◌, List, ℕ, subst, true, false, [], is_some}
use Rattle.std.specs.Prelude.{slice_get}
use Rattle.std.proofs.lemmas.Option.{slice_get-get_or}
use Rattle.nn_tree.specs.Plain.{is_child}
use Rattle.std.proofs.lemmas.List.{length-take-le}
use Rattle.nn_base.proofs.PathsLemmas.{next_name}
use Rattle.nn_tree.proofs.FindLemmas.{start, stopped, stepped, missing, arrived}
use Rattle.nn_tree.proofs.SoundLemmas.{sound_of}
use Rattle.nn_arena.specs.declared.place.Place.{Place}
use Rattle.nn_arena.specs.Places.{link_of, links_of, in_use}
use Rattle.nn_arena.specs.Children.{AreLinked}
use Rattle.nn_arena.proofs.PlaceLemmas.{live_entry, spot_in_use}
use Rattle.nn_arena.proofs.tree.ArenaTree.walk.Goals as goal

pub entry-requires : goal.entry-requires
entry-requires c = ap is_some c.loop-k.invariant.here.at

pub loop-k-init : goal.loop-k-init
loop-k-init c = record { here = start (links_of c.args.self.now.arena.places.items) (take c.args.levels c.args.path.now) c.args.self.now.arena.tree; left = c.components-names.ensures }

pub child-requires-clause-linked : goal.child-requires-clause-linked
child-requires-clause-linked c = subst (λ (ps : List Place). AreLinked ps) (sym c.deref.ensures.value) c.args.self.now.arena.linked

pub child-requires-clause-there : goal.child-requires-clause-there
child-requires-clause-there c = subst (λ (ps : List Place). in_use ps c.loop-k.at ≡ true) (sym c.deref.ensures.value) (spot_in_use c.args.self.now.arena.places.items c.loop-k.at (ap is_some c.loop-k.invariant.here.at))

pub returns-then-not-is_dir-clause-walk : goal.returns-then-not-is_dir-clause-walk
returns-then-not-is_dir-clause-walk c =
    let in_range : c.loop-k._k < length (take c.args.levels c.args.path.now) = omega (arith, length-take-le c.args.levels c.args.path.now c.requires) in
    stopped (links_of c.args.self.now.arena.places.items) (take c.args.levels c.args.path.now) c.loop-k._k c.loop-k.at _ (link_of c.entry.result.now) c.args.self.now.arena.tree c.loop-k.invariant.here (slice_get-get_or (take c.args.levels c.args.path.now) c.loop-k._k [] in_range)
    (live_entry c.args.self.now.arena.places.items c.loop-k.at c.entry.result.now c.entry.ensures) (sym c.if-not-is_dir.ensures)

pub returns-then-not-is_dir-clause-sound : goal.returns-then-not-is_dir-clause-sound
returns-then-not-is_dir-clause-sound c = sound_of (links_of c.args.self.now.arena.places.items) c.args.self.now.counters c.args.self.now.arena.tree c.args.self.now.arena.limits c.args.self.now.in_range

pub returns-in-None-clause-walk : goal.returns-in-None-clause-walk
returns-in-None-clause-walk c =
    let next = next_name c.args.path.now c.loop-k.names c.take_name-name.new.self c.take_name-name.result.now c.loop-k._k c.args.levels (omega arith) c.loop-k.invariant.left c.take_name-name.ensures.rest in
    missing (links_of c.args.self.now.arena.places.items) (take c.args.levels c.args.path.now) c.loop-k._k c.loop-k.at c.take_name-name.result.now (link_of c.entry.result.now) c.args.self.now.arena.tree c.loop-k.invariant.here next.0
    (live_entry c.args.self.now.arena.places.items c.loop-k.at c.entry.result.now c.entry.ensures) (sym c.if-not-is_dir.ensures)
    (subst (λ (ps : List Place). (k : ℕ) → k < length ps → is_child (links_of ps) c.loop-k.at c.take_name-name.result.now k ≡ false) c.deref.ensures.value c.in-None.ensures.none)

pub returns-in-None-clause-sound : goal.returns-in-None-clause-sound
returns-in-None-clause-sound c = sound_of (links_of c.args.self.now.arena.places.items) c.args.self.now.counters c.args.self.now.arena.tree c.args.self.now.arena.limits c.args.self.now.in_range

pub loop-k-preserved : goal.loop-k-preserved
loop-k-preserved c =
    let next = next_name c.args.path.now c.loop-k.names c.take_name-name.new.self c.take_name-name.result.now c.loop-k._k c.args.levels (omega arith) c.loop-k.invariant.left c.take_name-name.ensures.rest in
    record {
      here = stepped (links_of c.args.self.now.arena.places.items) (take c.args.levels c.args.path.now) c.loop-k._k c.loop-k.at c.take_name-name.result.now (link_of c.entry.result.now) c.args.self.now.arena.tree c.loop-k.invariant.here next.0
          (live_entry c.args.self.now.arena.places.items c.loop-k.at c.entry.result.now c.entry.ensures) c.in-Some.next (sym c.if-not-is_dir.ensures)
          (subst (λ (ps : List Place). is_child (links_of ps) c.loop-k.at c.take_name-name.result.now c.in-Some.next ≡ true) c.deref.ensures.value c.in-Some.ensures.found);
      left = next.1;
    }

pub returns-clause-walk : goal.returns-clause-walk
returns-clause-walk c =
    let all : c.loop-k._k ≡ length (take c.args.levels c.args.path.now) = omega (arith, length-take-le c.args.levels c.args.path.now c.requires) in
    arrived (links_of c.args.self.now.arena.places.items) (take c.args.levels c.args.path.now) c.loop-k._k c.loop-k.at c.args.self.now.arena.tree c.loop-k.invariant.here all

pub returns-clause-sound : goal.returns-clause-sound
returns-clause-sound c = sound_of (links_of c.args.self.now.arena.places.items) c.args.self.now.counters c.args.self.now.arena.tree c.args.self.now.arena.limits c.args.self.now.in_range
