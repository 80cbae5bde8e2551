use Rattle.std.proofs.Common.{arith, ◌∙◌}
use Rattle.nn_message.proofs.FrameLemmas.{ends, end_within, end_place}
use Rattle.nn_message.proofs.frame.unended.Goals as goal

pub returns-in_err-at-clause-none : goal.returns-in_err-at-clause-none
returns-in_err-at-clause-none c = rw c.from_residual-in_err-at.ensures (λ text summary e.
    let is = ends c.args.bytes.now c.in_ok-front.front.now text summary c.in_ok-front.len c.requires c.in_ok-front.ensures.some.0 c.in_ok-front.ensures.some.1 e in
    c.in_err-at.ensures (end_within c.in_ok-front.front.now text summary c.in_ok-front.len is))

pub returns-in_err-summary-clause-none : goal.returns-in_err-summary-clause-none
returns-in_err-summary-clause-none c = rw c.from_residual-in_err-summary.ensures (λ text summary e.
    let is = ends c.args.bytes.now c.in_ok-front.front.now text summary c.in_ok-front.len c.requires c.in_ok-front.ensures.some.0 c.in_ok-front.ensures.some.1 e in
    let within = end_within c.in_ok-front.front.now text summary c.in_ok-front.len is in
    c.in_err-summary.ensures.none summary (c.split_at.ensures.back ∙ (end_place c.in_ok-front.front.now text summary c.in_ok-front.len c.in_ok-at.at is (omega (arith, within, c.in_ok-at.ensures))).1))
