use Rattle.std.proofs.Common.{◌≡◌, ◌+◌, ◌-◌, ◌<◌, ◌≤◌, true, false, take, length, sym, ap, ◌∙◌, arith}
use Rattle.nn_tree.specs.Namespace.{usage_of}
use Rattle.nn_ops.specs.Above.{is_above, shared, has_room_at, has_room_but}
use Rattle.nn_ops.proofs.MoveLemmas.{move_fails, move_goes_on, move_ends, parent_take}
use Rattle.nn_ops.proofs.SharedLemmas.{shares_fewer}
use Rattle.nn_ops.proofs.rename.fits_move.Goals as goal

pub returns-then-not-fits_at : goal.returns-then-not-fits_at
returns-then-not-fits_at g c =
    let m = (g.T.Tree.meaning c.args.tree.now).nodes in
    let from = c.args.from.now in
    let to = c.args.to.now in
    let more : c.usage-more.result ≡ usage_of m from = c.usage-more.ensures ∙ ap (usage_of m) c.requires.at in
    let above : shared to from < c.loop-level.level = omega arith in
    let fails : has_room_at m c.usage-more.result (take c.loop-level.level to) ≡ false = ap (has_room_at m c.usage-more.result) (sym c.loop-level.invariant.2) ∙ sym c.if-not-fits_at.ensures in
    sym ((λ i. has_room_but m (λ q. is_above q from) (sym more i) to) ∙ c.loop-level.invariant.3 ∙ move_fails m from to c.usage-more.result c.loop-level.level above c.loop-level.invariant.0 fails)

pub loop-level-preserved : goal.loop-level-preserved
loop-level-preserved g c =
    let m = (g.T.Tree.meaning c.args.tree.now).nodes in
    let from = c.args.from.now in
    let to = c.args.to.now in
    let level = c.loop-level.level in
    let within = c.loop-level.invariant.0 in
    let above : shared to from < level = omega arith in
    let some : 0 < level = omega arith in
    let le : level ≤ length to = omega arith in
    let whole : level ≡ level - 1 + 1 = omega arith in
    let fits : has_room_at m c.usage-more.result (take level to) ≡ true = ap (has_room_at m c.usage-more.result) (sym c.loop-level.invariant.2) ∙ sym c.if-not-fits_at.ensures in
    let up = c.in-Some.ensures.1 in (
      omega arith,
      c.in-Some.ensures.0,
      parent_take to (g.T.Tree.place c.args.tree.now c.in-Some.above) up.0 level some le (sym up.1 ∙ c.loop-level.invariant.2),
      c.loop-level.invariant.3 ∙ move_goes_on m from to c.usage-more.result level above within fits ∙ ap (λ n. has_room_but m (λ q. is_above q from) c.usage-more.result (take n to)) whole,
    )

pub returns : goal.returns
returns g c =
    let m = (g.T.Tree.meaning c.args.tree.now).nodes in
    let from = c.args.from.now in
    let to = c.args.to.now in
    let more : c.usage-more.result ≡ usage_of m from = c.usage-more.ensures ∙ ap (usage_of m) c.requires.at in
    let within = c.loop-level.invariant.0 in
    let last : c.loop-level.level + 1 ≤ shared to from + 1 = omega arith in
    let le : c.loop-level.level + 1 ≤ length to = omega arith in
    sym ((λ i. has_room_but m (λ q. is_above q from) (sym more i) to) ∙ c.loop-level.invariant.3 ∙ move_ends m from to c.usage-more.result (c.loop-level.level + 1) last (shares_fewer to from c.requires.outside) le)
