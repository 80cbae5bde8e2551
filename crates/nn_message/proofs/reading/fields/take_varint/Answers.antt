use Rattle.std.proofs.Common.{◌-◌, length, Some, ap, sym, ◌∙◌, drop, length-drop, arith}
use Rattle.std.proofs.lemmas.List.{take_all}
use Rattle.nn_message.specs.Reading.{number_at}
use Rattle.nn_message.proofs.SpellsLemmas.{Gives-none}
use Rattle.nn_message.proofs.NumberLemmas.{number_begins, number_none}
use Rattle.nn_message.proofs.reading.fields.take_varint.Goals as goal

pub returns-in_err-value : goal.returns-in_err-value
returns-in_err-value c =
    let bytes = c.args.rest.now.now in
    let none = number_none bytes (λ n rest begins. let e = c.in_err-value.ensures.again n rest begins in let f = c.in_err-value.was in cc) in
    Gives-none c.from_residual.result bytes (number_at bytes) (cc) none

pub returns : goal.returns
returns c =
    let bytes = c.args.rest.now.now in
    let len = c.in_ok-value.len in
    number_begins bytes c.in_ok-value.value (drop len bytes) c.in_ok-value.ensures.some
    ∙ ap (λ t. Some (c.in_ok-value.value, t)) (sym (take_all (length bytes - len) (drop len bytes) (omega (arith, length-drop len bytes))))
