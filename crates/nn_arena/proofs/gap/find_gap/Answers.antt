use Rattle.std.proofs.Common.{Option, ℕ, subst}
use Rattle.nn_arena.specs.Children.{IsWalked}
use Rattle.nn_base.proofs.PlainLemmas.{is_less}
use Rattle.nn_arena.proofs.GapLemmas.{walk_on, walk_less}
use Rattle.nn_arena.proofs.gap.find_gap.Goals as goal

pub walk-smaller : goal.walk-smaller
walk-smaller c =
    walk_less c.args.places.now c.args.parent c.args.name.now c.walk.before c.in-Some.at c.entry_in-child.result.now c.requires.linked
    (subst (λ (o : Option ℕ). IsWalked c.args.places.now c.args.parent c.args.name.now c.walk.before o) c.in-Some.is c.walk.invariant) c.entry_in-child.ensures.entry

pub walk-preserved : goal.walk-preserved
walk-preserved c =
    walk_on c.args.places.now c.args.parent c.args.name.now c.walk.before c.in-Some.at c.entry_in-child.result.now c.requires.linked
    (subst (λ (o : Option ℕ). IsWalked c.args.places.now c.args.parent c.args.name.now c.walk.before o) c.in-Some.is c.walk.invariant) c.entry_in-child.ensures.entry
    (is_less _ (cc))
