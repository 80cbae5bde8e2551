use Rattle.std.proofs.Common.{◌≡◌, ◌≢◌, true, not, ap, nat_eq, eq-eqb}
use Rattle.nn_tree.specs.declared.spot.Spot.{Spot}
use Rattle.nn_tree.proofs.NextLemmas.{begins, sibling_next, climbs}
use Rattle.nn_tree.proofs.below.next_past.Goals as goal

other_spot : (s t : Spot) → true ≡ not (nat_eq s.index t.index) → s ≢ t
other_spot s t h is = let same = eq-eqb s.index t.index (ap (λ (s : Spot). s.index) is) in cc

pub climb-init : goal.climb-init
climb-init g c = (c.requires.at, begins (g.T.Tree.meaning c.args.tree.now).nodes (g.T.Tree.place c.args.tree.now c.args.top) (g.T.Tree.place c.args.tree.now c.args.at) c.requires.sound.formed c.requires.under c.requires.childless)

pub returns-in-Some : goal.returns-in-Some
returns-in-Some g c = sibling_next (g.T.Tree.meaning c.args.tree.now) (g.T.Tree.has c.args.tree.now) (g.T.Tree.place c.args.tree.now) c.requires.sound c.args.top c.climb.last _
    c.requires.top c.climb.invariant.0 c.climb.invariant.1 (other_spot c.climb.last c.args.top (cc)) c.in-Some.sibling c.in-Some.ensures.next

pub climb-preserved : goal.climb-preserved
climb-preserved g c = (
  c.in_ok-last-in-None.ensures.0,
  climbs (g.T.Tree.meaning c.args.tree.now) (g.T.Tree.has c.args.tree.now) (g.T.Tree.place c.args.tree.now) c.requires.sound c.args.top c.climb.last _
      c.requires.top c.climb.invariant.0 c.climb.invariant.1 (other_spot c.climb.last c.args.top (cc)) c.in_ok-last-in-None.last c.in-None.ensures.next c.in_ok-last-in-None.ensures,
)
