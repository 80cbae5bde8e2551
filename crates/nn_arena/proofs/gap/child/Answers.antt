use Rattle.std.proofs.Common.{◌≡◌, sym, ap, ◌∙◌}
use Rattle.std.specs.Cmp.Lexicographic.{bytes_decides}
use Rattle.std.specs.declared.cmp.Ordering.TheVariants.{Less}
use Rattle.nn_base.specs.Paths.{name_cmp}
use Rattle.nn_base.proofs.PlainLemmas.{some_is}
use Rattle.nn_tree.specs.Plain.{name_at}
use Rattle.nn_tree.proofs.OrderLemmas.{name_above}
use Rattle.nn_arena.specs.Places.{links_of}
use Rattle.nn_arena.proofs.PlaceLemmas.{entry_named}
use Rattle.nn_arena.proofs.SiblingLemmas.{yes_no}
use Rattle.nn_arena.proofs.GapLemmas.{missed_child, gap_below, some_so}
use Rattle.nn_arena.proofs.gap.child.Goals as goal

pub returns-else-eq-clause-none : goal.returns-else-eq-clause-none
returns-else-eq-clause-none c =
    missed_child (links_of c.args.places.now) c.args.parent _ _ c.args.name.now c.find_gap.result.after c.find_gap.ensures.after
    (gap_below c.args.places.now c.args.parent c.args.name.now c.find_gap.result c.find_gap.ensures (name_above c.args.name.now c.requires.name))
    (some_so (λ j. name_cmp (name_at (links_of c.args.places.now) j) c.args.name.now ≡ Less → ⊥) c.find_gap.result.after c.find_gap.ensures.reached)
    (λ j is same.
    let here = some_is _ _ (sym c.in_ok-at.was ∙ is) in
    let named = sym (entry_named c.args.places.now c.in_ok-at.at c.entry_in.result.now c.entry_in.ensures.entry) ∙ ap (name_at (links_of c.args.places.now)) here ∙ same in
    yes_no _ ((bytes_decides c.name.result.now c.args.name.now).1 (c.name.ensures ∙ named)) (sym c.eq.ensures ∙ c.if-eq.false))
