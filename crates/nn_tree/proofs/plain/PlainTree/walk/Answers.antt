use Rattle.std.proofs.Common.{arith, take, refl, sym, Some, ◌≡◌, length, ◌<◌, List, ℕ, subst, true, false, []}
use Rattle.std.specs.Prelude.{slice_get}
use Rattle.std.proofs.lemmas.Option.{slice_get_read, slice_get-get_or}
use Rattle.nn_tree.specs.declared.entry.Entry.{Entry}
use Rattle.nn_tree.specs.Plain.{is_child, links_of}
use Rattle.std.proofs.lemmas.List.{length-take-le}
use Rattle.nn_base.proofs.PathsLemmas.{next_name}
use Rattle.nn_tree.proofs.FindLemmas.{start, stopped, stepped, missing, arrived}
use Rattle.nn_tree.proofs.SoundLemmas.{sound_of}
use Rattle.nn_tree.proofs.PlainLemmas.{held}
use Rattle.nn_tree.proofs.PlainClauses.{walked_entry, walked_within}
use Rattle.nn_tree.proofs.plain.PlainTree.walk.Goals as goal

pub index-requires : goal.index-requires
index-requires c = omega (arith, walked_within c.args.self.now.entries.items c.loop-k.at c.loop-k._k (take c.args.levels c.args.path.now) c.args.self.now.tree c.loop-k.invariant.here)

pub loop-k-init : goal.loop-k-init
loop-k-init c = record { here = start (links_of c.args.self.now.entries.items) (take c.args.levels c.args.path.now) c.args.self.now.tree; left = c.components-names.ensures }

pub returns-then-not-is_dir-clause-walk : goal.returns-then-not-is_dir-clause-walk
returns-then-not-is_dir-clause-walk c =
    let read : slice_get c.args.self.now.entries.items c.loop-k.at ≡ Some c.index.result.now = slice_get_read _ _ _ _ refl (walked_within c.args.self.now.entries.items c.loop-k.at c.loop-k._k (take c.args.levels c.args.path.now) c.args.self.now.tree c.loop-k.invariant.here) c.index.ensures in
    let in_range : c.loop-k._k < length (take c.args.levels c.args.path.now) = omega (arith, length-take-le c.args.levels c.args.path.now c.requires) in
    stopped (links_of c.args.self.now.entries.items) (take c.args.levels c.args.path.now) c.loop-k._k c.loop-k.at _ (held c.index.result.now) c.args.self.now.tree c.loop-k.invariant.here (slice_get-get_or (take c.args.levels c.args.path.now) c.loop-k._k [] in_range)
    (walked_entry c.args.self.now.entries.items c.loop-k.at c.loop-k._k c.index.result.now (take c.args.levels c.args.path.now) c.loop-k.invariant.here read) (sym c.if-not-is_dir.ensures)

pub returns-then-not-is_dir-clause-sound : goal.returns-then-not-is_dir-clause-sound
returns-then-not-is_dir-clause-sound c = sound_of (links_of c.args.self.now.entries.items) c.args.self.now.counters c.args.self.now.tree c.args.self.now.limits c.args.self.now.in_range

pub returns-in-None-clause-walk : goal.returns-in-None-clause-walk
returns-in-None-clause-walk c =
    let read : slice_get c.args.self.now.entries.items c.loop-k.at ≡ Some c.index.result.now = slice_get_read _ _ _ _ refl (walked_within c.args.self.now.entries.items c.loop-k.at c.loop-k._k (take c.args.levels c.args.path.now) c.args.self.now.tree c.loop-k.invariant.here) c.index.ensures in
    let next = next_name c.args.path.now c.loop-k.names c.take_name.new.self c.take_name.result.now c.loop-k._k c.args.levels (omega arith) c.loop-k.invariant.left c.take_name.ensures.rest in
    missing (links_of c.args.self.now.entries.items) (take c.args.levels c.args.path.now) c.loop-k._k c.loop-k.at c.take_name.result.now (held c.index.result.now) c.args.self.now.tree c.loop-k.invariant.here next.0
    (walked_entry c.args.self.now.entries.items c.loop-k.at c.loop-k._k c.index.result.now (take c.args.levels c.args.path.now) c.loop-k.invariant.here read) (sym c.if-not-is_dir.ensures)
    (subst (λ (es : List Entry). (k : ℕ) → k < length es → is_child (links_of es) c.loop-k.at c.take_name.result.now k ≡ false) c.deref.ensures.value c.in-None.ensures.none)

pub returns-in-None-clause-sound : goal.returns-in-None-clause-sound
returns-in-None-clause-sound c = sound_of (links_of c.args.self.now.entries.items) c.args.self.now.counters c.args.self.now.tree c.args.self.now.limits c.args.self.now.in_range

pub loop-k-preserved : goal.loop-k-preserved
loop-k-preserved c =
    let read : slice_get c.args.self.now.entries.items c.loop-k.at ≡ Some c.index.result.now = slice_get_read _ _ _ _ refl (walked_within c.args.self.now.entries.items c.loop-k.at c.loop-k._k (take c.args.levels c.args.path.now) c.args.self.now.tree c.loop-k.invariant.here) c.index.ensures in
    let next = next_name c.args.path.now c.loop-k.names c.take_name.new.self c.take_name.result.now c.loop-k._k c.args.levels (omega arith) c.loop-k.invariant.left c.take_name.ensures.rest in
    record {
      here = stepped (links_of c.args.self.now.entries.items) (take c.args.levels c.args.path.now) c.loop-k._k c.loop-k.at c.take_name.result.now (held c.index.result.now) c.args.self.now.tree c.loop-k.invariant.here next.0
          (walked_entry c.args.self.now.entries.items c.loop-k.at c.loop-k._k c.index.result.now (take c.args.levels c.args.path.now) c.loop-k.invariant.here read) c.in-Some.next (sym c.if-not-is_dir.ensures)
          (subst (λ (es : List Entry). is_child (links_of es) c.loop-k.at c.take_name.result.now c.in-Some.next ≡ true) c.deref.ensures.value c.in-Some.ensures.found);
      left = next.1;
    }

pub returns-clause-walk : goal.returns-clause-walk
returns-clause-walk c =
    let all : c.loop-k._k ≡ length (take c.args.levels c.args.path.now) = omega (arith, length-take-le c.args.levels c.args.path.now c.requires) in
    arrived (links_of c.args.self.now.entries.items) (take c.args.levels c.args.path.now) c.loop-k._k c.loop-k.at c.args.self.now.tree c.loop-k.invariant.here all

pub returns-clause-sound : goal.returns-clause-sound
returns-clause-sound c = sound_of (links_of c.args.self.now.entries.items) c.args.self.now.counters c.args.self.now.tree c.args.self.now.limits c.args.self.now.in_range
