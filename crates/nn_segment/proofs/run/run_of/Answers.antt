use Rattle.std.proofs.Common.{ℕ, None, sym, subst, rules}
use Rattle.nn_segment.specs.Reaching.{ReachFrame}
use Rattle.nn_segment.proofs.ReachLemmas.{Reached, nothing_reached, more_reached, less_is_left, whole_reached, frame_reached}
use Rattle.nn_segment.proofs.run.run_of.Goals as goal

pub loop-len-init : goal.loop-len-init
loop-len-init c = subst (λ (n : ℕ). Reached c.args.records.now c.args.first None 0 n) (sym c.first.view_is) (nothing_reached c.args.records.now c.args.first)

pub loop-len-smaller : goal.loop-len-smaller
loop-len-smaller c = let found = rw c.in-Some.is at c.in_ok-len.ensures.some in less_is_left c.args.records.now c.loop-len.end c.loop-len.next c.in-Some.len found.0 found.1

pub loop-len-preserved : goal.loop-len-preserved
loop-len-preserved c = let found = rw c.in-Some.is at c.in_ok-len.ensures.some in more_reached _ _ _ _ _ _ found.0 c.loop-len.invariant found.1

pub returns-in_err-len-clause-memory : goal.returns-in_err-len-clause-memory
returns-in_err-len-clause-memory c =
    let reach : ReachFrame c.args.records.now c.args.first = frame_reached _ _ _ _ _ c.loop-len.invariant c.in_err-len.ensures.memory in
    search rules

pub returns-clause-all : goal.returns-clause-all
returns-clause-all c =
    let so_far = c.loop-len.invariant in
    (so_far.rs, whole_reached _ _ _ _ _ so_far (rw c.in_default.is at c.in_ok-len.ensures.none), so_far.last_is, so_far.len)
