use Rattle.std.proofs.Common.{subst}
use Rattle.std.proofs.lemmas.Result.{err_from_is_err_and}
use Rattle.std.proofs.lemmas.List.{take_rest, drop-drop}
use Rattle.std.proofs.Common.{drop}
use Rattle.nn_wire.specs.Varint.{Begins}
use Rattle.nn_wire.specs.Fault.{IsVarintFault}
use Rattle.nn_wire.proofs.field.varint_at.Goals as goal

pub returns-clause-ok : goal.returns-clause-ok
returns-clause-ok c =
    let bytes = c.args.bytes.now in
    let at = c.args.at in
    let n = c.in_ok-value.value in
    let len = c.in_ok-value.len in
    subst (λ rest. Begins (drop at bytes) n rest) (drop-drop len at bytes) (subst (λ t. Begins t n (drop len t)) (take_rest bytes at) c.in_ok-value.ensures.ok)

pub returns-in_err-value-clause-err : goal.returns-in_err-value-clause-err
returns-in_err-value-clause-err c =
    let p = err_from_is_err_and c.from_residual.result c.from_residual.ensures.1 in
    rw (p.1, p.2) (subst (λ t. IsVarintFault t c.in_err-value.field-0.0) (take_rest c.args.bytes.now c.args.at) c.in_err-value.ensures.err)
