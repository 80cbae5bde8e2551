-- An id has at most 19 digits, so the newline behind them has room.
use Rattle.std.proofs.Common.{◌≡◌, ◌<◌, ◌^◌, ◌++◌, length, ap, ◌∙◌, arith}
use Rattle.std.specs.Prelude.{codes}
use Rattle.std.specs.Fmt.{decimal}
use Rattle.nn_marks.proofs.SeenLemmas.{newline_put, length-decimal_id, seen_text_reads}
use Rattle.nn_marks.proofs.seen.seen_text.Goals as goal

pub bounds-out-len : goal.bounds-out-len
bounds-out-len c =
    let digits : c.as_bytes-digits.result.now ≡ decimal c.id.inside.0 = c.as_bytes-digits.ensures.value ∙ c.format.ensures.text in
    omega (arith, length-decimal_id c.id.inside.0 c.id.invariant, ap length digits)

pub returns-clause-room : goal.returns-clause-room
returns-clause-room c =
    let digits : c.as_bytes-digits.result.now ≡ decimal c.id.inside.0 = c.as_bytes-digits.ensures.value ∙ c.format.ensures.text in
    omega (arith, length-decimal_id c.id.inside.0 c.id.invariant, ap length digits)

pub returns-clause-text : goal.returns-clause-text
returns-clause-text c =
    let digits : c.as_bytes-digits.result.now ≡ decimal c.args.id = c.as_bytes-digits.ensures.value ∙ c.format.ensures.text ∙ ap decimal c.id.view_is in
    let small : c.args.id < 2 ^ 63 = omega (arith, c.id.view_is, c.id.invariant) in
    let room : length c.as_bytes-digits.result.now < length c.args.out.now = omega (arith, length-decimal_id c.args.id small, ap length digits) in
    newline_put c.as_bytes-digits.result.now _ c.args.out.now c.copy_from_slice.ensures.after room ∙ ap (λ front. front ++ codes "\n") digits

pub returns-clause-reads_back : goal.returns-clause-reads_back
returns-clause-reads_back c =
    let small : c.args.id < 2 ^ 63 = omega (arith, c.id.view_is, c.id.invariant) in
    seen_text_reads _ c.args.id small (returns-clause-text c)
