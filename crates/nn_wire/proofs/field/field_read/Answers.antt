use Rattle.std.proofs.Common.{◌≡◌, ◌+◌, ◌*◌, ◌%◌, length, take, drop, length-drop, refl, ap, subst, ◌∙◌, inr, arith}
use Rattle.std.proofs.lemmas.Result.{err_from_is_err_and}
use Rattle.nn_wire.specs.Varint.{varint, Begins}
use Rattle.nn_wire.specs.Field.{kind_code}
use Rattle.nn_wire.specs.Fault.{is_no_key, in_value, past_end}
use Rattle.nn_wire.proofs.FieldLemmas.{read_bytes, key_says}
use Rattle.nn_wire.proofs.field.field_read.Goals as goal

pub returns-in_err-number-clause-err : goal.returns-in_err-number-clause-err
returns-in_err-number-clause-err c =
    let p = err_from_is_err_and c.from_residual-in_err-number.result c.from_residual-in_err-number.ensures.1 in
    let wrong = c.in_err-number.ensures.err in
    rw (p.1, p.2) (is_no_key c.in_ok-key.key (drop c.in_ok-key.after_key c.args.bytes.now) c.in_ok-key.ensures.ok wrong.1 wrong.0)

pub returns-in_err-value-clause-err : goal.returns-in_err-value-clause-err
returns-in_err-value-clause-err c =
    let p = err_from_is_err_and c.from_residual-in_err-value.result c.from_residual-in_err-value.ensures.1 in
    let key = c.in_ok-number.ensures.ok in
    rw (p.1, p.2) (in_value c.in_ok-key.key (drop c.in_ok-key.after_key c.args.bytes.now) c.in_ok-key.ensures.ok (key_says c.in_ok-key.key c.in_ok-number.number c.in_ok-number.kind key.0 key.1) c.in_err-value.ensures.err)

pub returns-then-value-bytes-clause-err : goal.returns-then-value-bytes-clause-err
returns-then-value-bytes-clause-err c =
    let bytes = c.args.bytes.now in
    let key = c.in_ok-number.ensures.ok in
    let kind : c.in_ok-key.key % 8 ≡ 2 = omega (arith, key.1, ap kind_code c.in-Bytes.is) in
    past_end c.in_ok-key.key (drop c.in_ok-key.after_key bytes) c.in_ok-value.value (drop c.in_ok-value.start bytes) c.in_ok-key.ensures.ok
    (key_says c.in_ok-key.key c.in_ok-number.number c.in_ok-number.kind key.0 key.1) kind c.in_ok-value.ensures.ok (omega (arith, length-drop c.in_ok-value.start bytes, c.if-value-bytes.true)) refl

pub returns-else-value-bytes-clause-ok : goal.returns-else-value-bytes-clause-ok
returns-else-value-bytes-clause-ok c =
    let bytes = c.args.bytes.now in
    let at = c.args.at in
    let after = c.in_ok-key.after_key in
    let number = c.in_ok-number.number in
    let key = c.in_ok-number.ensures.ok in
    let is : c.in_ok-key.key ≡ 8 * number + 2 = key.1 ∙ ap (λ k. 8 * number + kind_code k) c.in-Bytes.is in
    let start = c.in_ok-value.start in
    let value = c.in_ok-value.value in
    inr (
      take value (drop start bytes),
      read_bytes bytes at after number value start key.0
          (subst (λ k. Begins (drop at bytes) k (drop after bytes)) is c.in_ok-key.ensures.ok)
          (subst (λ k. after ≡ at + length (varint k)) is c.in_ok-key.ensures.end.0)
          c.in_ok-value.ensures.ok c.in_ok-value.ensures.end.0 c.if-value-bytes.false,
    )
