use Rattle.std.proofs.Common.{subst, sym, ap, ◌∙◌, Some, None}
use Rattle.nn_base.specs.Paths.{Bytes}
use Rattle.nn_arena.specs.declared.place.Entry.{Entry}
use Rattle.nn_arena.specs.declared.place.Place.{Place}
use Rattle.nn_arena.specs.declared.place.Place.TheVariants.{Free}
use Rattle.nn_arena.specs.Children.{IsGap}
use Rattle.nn_arena.specs.Changes.{IsTaken}
use Rattle.std.proofs.Math.ListN.{set}
use Rattle.nn_arena.proofs.TakenLemmas.{parent_in_use, read_here, used_is, not_free, taken}
use Rattle.nn_arena.proofs.link.take.Goals as goal

pub find_gap-gap-requires-clause-there : goal.find_gap-gap-requires-clause-there
find_gap-gap-requires-clause-there c = parent_in_use c.args.places.now c.args.at c.entry_in-taken.result.now c.requires.tree c.requires.below_root c.entry_in-taken.ensures.entry

pub set_behind-requires-clause-parent : goal.set_behind-requires-clause-parent
set_behind-requires-clause-parent c = parent_in_use c.args.places.now c.args.at c.entry_in-taken.result.now c.requires.tree c.requires.below_root c.entry_in-taken.ensures.entry

pub unreachable-requires : goal.unreachable-requires
unreachable-requires c =
    let gap = subst (λ (name : Bytes). IsGap c.args.places.now c.entry_in-taken.result.now.parent name c.find_gap-gap.result) c.name.ensures c.find_gap-gap.ensures in
    let here = read_here c.args.places.now c.set_behind.new.places c.args.at c.entry_in-taken.result.now c.requires.tree c.requires.linked c.requires.below_root c.entry_in-taken.ensures.entry
    c.find_gap-gap.result gap c.set_behind.ensures.first c.set_behind.ensures.next c.index-places-at.result in
    not_free c.in-Free.next c.entry_in-taken.result.now (sym c.in-Free.is ∙ c.replace.ensures.value ∙ here)

pub returns-clause-entry : goal.returns-clause-entry
returns-clause-entry c =
    let gap = subst (λ (name : Bytes). IsGap c.args.places.now c.entry_in-taken.result.now.parent name c.find_gap-gap.result) c.name.ensures c.find_gap-gap.ensures in
    let here = read_here c.args.places.now c.set_behind.new.places c.args.at c.entry_in-taken.result.now c.requires.tree c.requires.linked c.requires.below_root c.entry_in-taken.ensures.entry
    c.find_gap-gap.result gap c.set_behind.ensures.first c.set_behind.ensures.next c.index-places-at.result in
    c.entry_in-taken.ensures.entry ∙ ap Some (sym (used_is c.in-Used.entry c.entry_in-taken.result.now (sym c.in-Used.is ∙ c.replace.ensures.value ∙ here)))

pub returns-clause-taken : goal.returns-clause-taken
returns-clause-taken c =
    let gap = subst (λ (name : Bytes). IsGap c.args.places.now c.entry_in-taken.result.now.parent name c.find_gap-gap.result) c.name.ensures c.find_gap-gap.ensures in
    let here = read_here c.args.places.now c.set_behind.new.places c.args.at c.entry_in-taken.result.now c.requires.tree c.requires.linked c.requires.below_root c.entry_in-taken.ensures.entry
    c.find_gap-gap.result gap c.set_behind.ensures.first c.set_behind.ensures.next c.index-places-at.result in
    let is = used_is c.in-Used.entry c.entry_in-taken.result.now (sym c.in-Used.is ∙ c.replace.ensures.value ∙ here) in
    let done = taken c.args.places.now c.set_behind.new.places c.args.at c.entry_in-taken.result.now c.requires.tree c.requires.linked c.requires.below_root c.entry_in-taken.ensures.entry
    c.find_gap-gap.result gap c.set_behind.ensures.first c.set_behind.ensures.next in
    subst (λ (x : Place). IsTaken c.args.places.now (set c.set_behind.new.places c.args.at x) c.args.at c.in-Used.entry) (sym c.replace.ensures.after)
    (subst (λ (e : Entry). IsTaken c.args.places.now (set c.set_behind.new.places c.args.at (Free None)) c.args.at e) (sym is) done)
