use Rattle.std.proofs.Common.{◌++◌, length, drop, sym, ap, ◌∙◌, arith, length-append}
use Rattle.std.proofs.lemmas.Option.{none-some, same_Some}
use Rattle.std.proofs.lemmas.List.{drop_at}
use Rattle.nn_wire.proofs.SpellingLemmas.{varint_some}
use Rattle.nn_image.proofs.CountLemmas.{begins, begins_with}
use Rattle.nn_image.proofs.count.behind_first.Goals as goal

pub returns-in_err-len-clause-some : goal.returns-in_err-len-clause-some
returns-in_err-len-clause-some c = λ message after is.
    absurd (none-some _ (sym c.in_err-len.was ∙ c.varint_get.ensures.again (length message) (message ++ after) (begins c.args.bytes.now message after (omega arith) is)))

pub returns-then-len-behind-clause-some : goal.returns-then-len-behind-clause-some
returns-then-len-behind-clause-some c = λ message after is.
    let first = begins c.args.bytes.now message after (omega arith) is in
    let read = begins_with c.args.bytes.now message after c.in_ok-len.len c.in_ok-len.size first (same_Some _ _ (sym c.in_ok-len.was ∙ c.varint_get.ensures.again (length message) (message ++ after) first)) in
    omega (arith, c.if-len-behind.true, read.0, ap length (c.split_at.ensures.back ∙ read.1), length-append message after)

pub returns-clause-some : goal.returns-clause-some
returns-clause-some c = λ message after is.
    let first = begins c.args.bytes.now message after (omega arith) is in
    let read = begins_with c.args.bytes.now message after c.in_ok-len.len c.in_ok-len.size first (same_Some _ _ (sym c.in_ok-len.was ∙ c.varint_get.ensures.again (length message) (message ++ after) first)) in
    c.split_at-2.ensures.back ∙ ap (drop c.in_ok-len.len) (c.split_at.ensures.back ∙ read.1) ∙ drop_at message after c.in_ok-len.len (sym read.0)

pub returns-clause-shorter : goal.returns-clause-shorter
returns-clause-shorter c = omega (arith, varint_some c.in_ok-len.len, c.in_ok-len.ensures.len, c.split_at.ensures.back_len, c.split_at-2.ensures.back_len)
