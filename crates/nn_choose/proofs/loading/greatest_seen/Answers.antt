use Rattle.std.proofs.Common.{◌≡◌, ◌+◌, ◌≤◌, arith}
use Rattle.nn_choose.proofs.AnswerLemmas.{none_on}
use Rattle.nn_choose.proofs.LookingLemmas.{looked_on, looked_fault}
use Rattle.nn_choose.proofs.LoadingLemmas.{seeing_begins, seeing_skips, seeing_more, seeing_all}
use Rattle.nn_choose.proofs.loading.greatest_seen.Goals as goal

pub returns-in_err-greatest-clause-kept : goal.returns-in_err-greatest-clause-kept
returns-in_err-greatest-clause-kept g c = looked_on g.H.Host.told (g.H.Host.state c.args.host.now) (g.H.Host.state c.seen_at.new.host) c.from_residual.result c.in_err-greatest.field-0.0 c.from_residual.ensures.1 c.in_err-greatest.ensures.kept

pub returns-in_err-greatest-clause-unrefused : goal.returns-in_err-greatest-clause-unrefused
returns-in_err-greatest-clause-unrefused g c = none_on c.from_residual.result c.in_err-greatest.field-0.0 c.from_residual.ensures.1 c.in_err-greatest.ensures.unrefused

pub loop-i-init : goal.loop-i-init
loop-i-init g c = seeing_begins c.args.served.now c.requires.served c.args.lead.now c.requires.lead c.in_ok-greatest.ensures.kept c.in_ok-greatest.ensures.ok

pub seen_at-requires-in-loop-i : goal.seen_at-requires-in-loop-i
seen_at-requires-in-loop-i g c = omega (arith, c.loop-i-test.true, c.count-i-end.ensures.count, c.loop-i.invariant.looked.untouched.count, c.in_ok-greatest.ensures.kept.untouched.count)

pub returns-in_err-seen-clause-kept : goal.returns-in_err-seen-clause-kept
returns-in_err-seen-clause-kept g c = looked_fault g.H.Host.told (g.H.Host.state c.args.host.now) (g.H.Host.state c.loop-i.host) (g.H.Host.state c.seen_at-in-loop-i.new.host) c.from_residual-in_err-seen.result c.in_err-seen.field-0.0 c.from_residual-in_err-seen.ensures.1 c.loop-i.invariant.looked c.in_err-seen.ensures.kept

pub returns-in_err-seen-clause-unrefused : goal.returns-in_err-seen-clause-unrefused
returns-in_err-seen-clause-unrefused g c = none_on c.from_residual-in_err-seen.result c.in_err-seen.field-0.0 c.from_residual-in_err-seen.ensures.1 c.in_err-seen.ensures.unrefused

pub loop-i-preserved : goal.loop-i-preserved
loop-i-preserved g c = seeing_more c.args.served.now c.requires.served c.args.lead.now c.requires.lead c.loop-i.invariant c.in-Some.it c.in_ok-seen.seen c.max-greatest.result c.in_ok-seen.ensures.kept
    c.in-Some.ensures.some.0 c.in-Some.ensures.some.1 c.in_ok-seen.ensures.ok c.max-greatest.ensures

pub loop-i-preserved-in_default : goal.loop-i-preserved-in_default
loop-i-preserved-in_default g c = seeing_skips c.args.served.now c.requires.served c.args.lead.now c.requires.lead c.loop-i.invariant c.in_default.ensures.none

pub returns : goal.returns
returns g c =
    let le : c.args.lead.now.dir.0 + 1 ≤ c.count-i-end.result = omega (arith, c.requires.lead.below, c.requires.count, c.count-i-end.ensures.count, c.in_ok-greatest.ensures.kept.untouched.count) in
    let whole : c.loop-i.i ≡ (g.H.Host.state c.args.host.now).count = omega (arith, c.loop-i.auto.i-end le, c.loop-i-test.false, c.count-i-end.ensures.count, c.in_ok-greatest.ensures.kept.untouched.count) in
    record { ok = seeing_all c.loop-i.invariant whole; unrefused = tt; kept = c.loop-i.invariant.looked }
