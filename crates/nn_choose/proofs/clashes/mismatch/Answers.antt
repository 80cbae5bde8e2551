use Rattle.std.proofs.Common.{◌∙◌, ap, sym}
use Rattle.nn_choose.specs.Served.{mismatch_in, served_at}
use Rattle.nn_choose.proofs.ServedLemmas.{refused_returned, refused_goes_on, refused_never}
use Rattle.nn_choose.proofs.clashes.mismatch.Goals as goal

pub returns-then-is_some : goal.returns-then-is_some
returns-then-is_some c = refused_returned (λ i. mismatch_in c.args.first.now i (served_at c.args.served.now i)) c.loop-i.i _ c.mismatch_at-refusal.result c.loop-i-test.true c.loop-i.invariant
    (c.mismatch_at-refusal.ensures ∙ ap (mismatch_in c.args.first.now c.loop-i.i) c.served_at.ensures) (sym c.is_some.ensures ∙ c.if-is_some.true)

pub loop-i-preserved : goal.loop-i-preserved
loop-i-preserved c = refused_goes_on (λ i. mismatch_in c.args.first.now i (served_at c.args.served.now i)) c.loop-i.i c.mismatch_at-refusal.result c.loop-i.invariant
    (c.mismatch_at-refusal.ensures ∙ ap (mismatch_in c.args.first.now c.loop-i.i) c.served_at.ensures) (sym c.is_some.ensures ∙ c.if-is_some.false)

pub returns : goal.returns
returns c = refused_never (λ i. mismatch_in c.args.first.now i (served_at c.args.served.now i)) c.loop-i.i _ c.loop-i.auto.i-end c.loop-i-test.false c.loop-i.invariant
