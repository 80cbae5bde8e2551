use Rattle.std.proofs.Common.{◌∙◌, length, sym, subst}
use Rattle.nn_choose.specs.Served.{IsFirstOf}
use Rattle.nn_choose.proofs.ClashLemmas.{mismatch_refuses, no_mismatch}
use Rattle.nn_choose.proofs.LayoutLemmas.{future_refuses, foreign_refuses, none_clashes, bare_clashes}
use Rattle.nn_choose.proofs.ServedLemmas.{if_some, if_none}
use Rattle.nn_choose.proofs.ToldLemmas.{mismatch_told, future_told, foreign_told}
use Rattle.nn_choose.proofs.clashes.clash.Goals as goal

pub returns-in_err-first-clause-none : goal.returns-in_err-first-clause-none
returns-in_err-first-clause-none c = if_none c.from_residual.result (λ is dirs are passed. bare_clashes c.args.served.now (subst (IsFirstOf c.args.served.now) c.in_err-first.was c.first_served.ensures) dirs are passed)

pub returns-in-Some-clause-some : goal.returns-in-Some-clause-some
returns-in-Some-clause-some c = λ dirs intent are passed. mismatch_refuses dirs c.args.served.now are c.in_ok-first.first c.in_ok-first.ensures c.in-Some.refusal (sym c.mismatch.ensures ∙ c.in-Some.is) passed intent

pub returns-in-Some-future-clause-some : goal.returns-in-Some-future-clause-some
returns-in-Some-future-clause-some c = λ dirs intent are passed.
    let one = no_mismatch dirs c.args.served.now are c.in_ok-first.first c.in_ok-first.ensures (sym c.mismatch.ensures ∙ c.in_default.is) in
    future_refuses dirs c.args.served.now are passed one c.in-Some-future.refusal (sym c.future.ensures ∙ c.in-Some-future.is) intent

pub returns-clause-some : goal.returns-clause-some
returns-clause-some c = if_some c.foreign.result (λ refusal is dirs intent are passed.
    let one = no_mismatch dirs c.args.served.now are c.in_ok-first.first c.in_ok-first.ensures (sym c.mismatch.ensures ∙ c.in_default.is) in
    foreign_refuses dirs c.args.served.now are passed one (sym c.future.ensures ∙ c.in_default-future.is) refusal (sym c.foreign.ensures ∙ is) intent)

pub returns-clause-none : goal.returns-clause-none
returns-clause-none c = if_none c.foreign.result (λ is dirs are passed.
    let one = no_mismatch dirs c.args.served.now are c.in_ok-first.first c.in_ok-first.ensures (sym c.mismatch.ensures ∙ c.in_default.is) in
    none_clashes dirs c.args.served.now are passed one (sym c.future.ensures ∙ c.in_default-future.is) (sym c.foreign.ensures ∙ is))

-- ---- no image is told of

pub returns-in-Some-clause-memory : goal.returns-in-Some-clause-memory
returns-in-Some-clause-memory c = mismatch_told c.in_ok-first.first c.args.served.now (length c.args.served.now) c.in-Some.refusal (sym c.mismatch.ensures ∙ c.in-Some.is)

pub returns-in-Some-future-clause-memory : goal.returns-in-Some-future-clause-memory
returns-in-Some-future-clause-memory c = future_told c.args.served.now (length c.args.served.now) c.in-Some-future.refusal (sym c.future.ensures ∙ c.in-Some-future.is)

pub returns-clause-memory : goal.returns-clause-memory
returns-clause-memory c = if_some c.foreign.result (λ refusal is. foreign_told c.args.served.now (length c.args.served.now) refusal (sym c.foreign.ensures ∙ is))
