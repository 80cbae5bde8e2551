use Rattle.std.proofs.Common.{sym, ◌∙◌, subst, ◌≡◌, arith, length, List, ◌<◌, ◌+◌}
use Rattle.std.proofs.Math.ListN.{get_or}
use Rattle.std.proofs.lemmas.Option.{slice_get-get_or}
use Rattle.nn_tree.specs.declared.entry.Entry.{Entry}
use Rattle.nn_tree.specs.Plain.{climbs_to}
use Rattle.nn_tree.proofs.CutLoop.{CutSoFar, cut_one, keep_one, cut_done, climbs_so_far}
use Rattle.nn_tree.proofs.entry.cut_below.Goals as goal
use Rattle.nn_tree.proofs.entry.cut_below.Goals.{then-climbs_to, else-climbs_to}

pub loop-i-preserved : goal.loop-i-preserved
loop-i-preserved c =
    let h : c.climbs_to.result ≡ climbs_to c.args.entries.now c.args.above (length c.args.entries.now) c.loop-i.i =
    c.climbs_to.ensures ∙ climbs_so_far c.args.entries.now c.loop-i.entries c.args.above c.loop-i.i c.loop-i.invariant _ _ in
    elim c.if-climbs_to.branch [
      | then-climbs_to w ↦
          let room : c.loop-i.i < length c.loop-i.entries = omega arith in
          subst (λ (es : List Entry). CutSoFar c.args.entries.now es c.args.above (c.loop-i.i + 1)) (sym w.entries-is)
          (cut_one c.args.entries.now c.loop-i.entries c.args.above c.loop-i.i (get_or c.loop-i.entries c.loop-i.i w.index-entries-i.result) c.loop-i.invariant c.loop-i-test.true
          (slice_get-get_or c.loop-i.entries c.loop-i.i w.index-entries-i.result room) (sym h ∙ w.if-climbs_to.true))
      | else-climbs_to w ↦
          subst (λ (es : List Entry). CutSoFar c.args.entries.now es c.args.above (c.loop-i.i + 1)) (sym w.entries-is)
          (keep_one c.args.entries.now c.loop-i.entries c.args.above c.loop-i.i c.loop-i.invariant (sym h ∙ w.if-climbs_to.false))
    ]

pub returns : goal.returns
returns c = cut_done c.args.entries.now c.loop-i.entries c.args.above c.loop-i.i c.loop-i.invariant c.loop-i-test.false
