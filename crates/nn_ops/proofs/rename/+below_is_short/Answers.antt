use Rattle.std.proofs.Common.{◌≡◌, ◌+◌, ◌<◌, ℕ, true, false, [], Option, sym, ap, subst, ◌∙◌, length, arith}
use Rattle.nn_tree.specs.declared.spot.Spot.{Spot}
use Rattle.nn_tree.specs.Spots.{last_name}
use Rattle.nn_ops.specs.Bounds.{TellsShort}
use Rattle.nn_ops.proofs.ShortLemmas.{SoFar, IsChild, next_is_child, started, went_on, all_done, child_fails, below_fails, behind, fewer_behind, too_deep, too_long}
use Rattle.nn_tree.proofs.SoundLemmas.{last_name_push}
use Rattle.nn_ops.proofs.rename.+below_is_short.Goals as goal

pub loop-next-init : goal.loop-next-init
loop-next-init g t c =
    let m = (g.T.Tree.meaning c.args.tree.now).nodes in
    let has = g.T.Tree.has c.args.tree.now in
    let place = g.T.Tree.place c.args.tree.now in
    (next_is_child has place m (place c.args.at) [] c.first_child-next.result c.first_child-next.ensures, started m c.counters-counters.ensures.sound.formed (place c.args.at) c.args.levels c.args.size place has c.first_child-next.result c.first_child-next.ensures)

pub returns-then-levels-eq-MOST_LEVELS : goal.returns-then-levels-eq-MOST_LEVELS
returns-then-levels-eq-MOST_LEVELS g t c =
    let m = (g.T.Tree.meaning c.args.tree.now).nodes in
    let place = g.T.Tree.place c.args.tree.now in
    let child = subst (λ (o : Option Spot). IsChild (g.T.Tree.has c.args.tree.now) place (place c.args.at) o) c.in-Some.is c.loop-next.invariant.0 in
    child_fails m (place c.args.at) (place c.in-Some.child) child.1.0 c.args.levels c.args.size child.1.1 (c.counters-counters.ensures.sound.named c.in-Some.child child.0) (too_deep c.args.levels c.args.size child.1.0 c.if-levels-eq-MOST_LEVELS.true)

pub returns-then-longer-gt-MOST_PATH : goal.returns-then-longer-gt-MOST_PATH
returns-then-longer-gt-MOST_PATH g t c =
    let m = (g.T.Tree.meaning c.args.tree.now).nodes in
    let place = g.T.Tree.place c.args.tree.now in
    let child = subst (λ (o : Option Spot). IsChild (g.T.Tree.has c.args.tree.now) place (place c.args.at) o) c.in-Some.is c.loop-next.invariant.0 in
    let name : length c.name.result.now ≡ length child.1.0 = ap length (c.name.ensures ∙ ap last_name child.1.1 ∙ last_name_push (place c.args.at) child.1.0) in
    child_fails m (place c.args.at) (place c.in-Some.child) child.1.0 c.args.levels c.args.size child.1.1 (c.counters-counters.ensures.sound.named c.in-Some.child child.0) (too_long c.args.levels c.args.size child.1.0 (omega arith))

pub returns-then-not-below_is_short : goal.returns-then-not-below_is_short
returns-then-not-below_is_short g t c =
    let m = (g.T.Tree.meaning c.args.tree.now).nodes in
    let place = g.T.Tree.place c.args.tree.now in
    let child = subst (λ (o : Option Spot). IsChild (g.T.Tree.has c.args.tree.now) place (place c.args.at) o) c.in-Some.is c.loop-next.invariant.0 in
    let name : length c.name.result.now ≡ length child.1.0 = ap length (c.name.ensures ∙ ap last_name child.1.1 ∙ last_name_push (place c.args.at) child.1.0) in
    let longer : c.args.size + 1 + length c.name.result.now ≡ c.args.size + 1 + length child.1.0 = omega arith in
    below_fails m (place c.args.at) (place c.in-Some.child) child.1.0 c.args.levels c.args.size child.1.1
    (subst (λ (n : ℕ). TellsShort false m (place c.in-Some.child) (c.args.levels + 1) n) longer c.if-not-below_is_short.ensures)

pub loop-next-smaller : goal.loop-next-smaller
loop-next-smaller g t c =
    let m = (g.T.Tree.meaning c.args.tree.now).nodes in
    let has = g.T.Tree.has c.args.tree.now in
    let place = g.T.Tree.place c.args.tree.now in
    let child = subst (λ (o : Option Spot). IsChild has place (place c.args.at) o) c.in-Some.is c.loop-next.invariant.0 in
    subst (λ (o : Option Spot). behind place m c.next_sibling-next.result < behind place m o) (sym c.in-Some.is)
    (fewer_behind m (place c.args.at) has place c.in-Some.child child.1.0 c.next_sibling-next.result (λ s h. c.counters-counters.ensures.sound.named s h) child.1.1 (c.next_sibling-next.ensures.next (place c.args.at) child.1.0 child.1.1))

pub loop-next-preserved : goal.loop-next-preserved
loop-next-preserved g t c =
    let m = (g.T.Tree.meaning c.args.tree.now).nodes in
    let has = g.T.Tree.has c.args.tree.now in
    let place = g.T.Tree.place c.args.tree.now in
    let p = place c.args.at in
    let child = subst (λ (o : Option Spot). IsChild has place p o) c.in-Some.is c.loop-next.invariant.0 in
    let done = subst (λ (o : Option Spot). SoFar m p c.args.levels c.args.size place o) c.in-Some.is c.loop-next.invariant.1 in
    let name : length c.name.result.now ≡ length child.1.0 = ap length (c.name.ensures ∙ ap last_name child.1.1 ∙ last_name_push p child.1.0) in
    let longer : c.args.size + 1 + length c.name.result.now ≡ c.args.size + 1 + length child.1.0 = omega arith in
    let below = subst (λ (n : ℕ). TellsShort true m (place c.in-Some.child) (c.args.levels + 1) n) longer c.if-not-below_is_short.ensures in
    let next = c.next_sibling-next.ensures.next p child.1.0 child.1.1 in
    (next_is_child has place m p child.1.0 c.next_sibling-next.result next, went_on m c.counters-counters.ensures.sound.formed p c.args.levels c.args.size place c.in-Some.child child.1.0 child.1.1 done below has c.next_sibling-next.result next)

pub returns : goal.returns
returns g t c =
    let m = (g.T.Tree.meaning c.args.tree.now).nodes in
    let place = g.T.Tree.place c.args.tree.now in
    all_done m c.counters-counters.ensures.sound.formed (place c.args.at) c.args.levels c.args.size place c.requires.levels c.requires.size
    (subst (λ (o : Option Spot). SoFar m (place c.args.at) c.args.levels c.args.size place o) c.in_default.is c.loop-next.invariant.1)
