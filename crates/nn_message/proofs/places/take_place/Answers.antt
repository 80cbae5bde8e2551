use Rattle.std.proofs.Common.{arith}
use Rattle.nn_message.proofs.FieldsTakenLemmas.{bytes_found, no_bytes}
use Rattle.nn_message.proofs.PlaceLemmas.{no_place, some_place}
use Rattle.nn_message.proofs.places.take_place.Goals as goal

pub returns-in_err-take_bytes-clause-none : goal.returns-in_err-take_bytes-clause-none
returns-in_err-take_bytes-clause-none c = rw c.from_residual.ensures (λ section after ok. no_bytes 4 c.args.rest.now.now _ after (omega arith) (omega arith) c.in_err-take_bytes.ensures.none)

pub returns-clause-none : goal.returns-clause-none
returns-clause-none c =
    let field = bytes_found 4 c.args.rest.now.now c.in_ok-take_bytes.field-0.now c.take_bytes.new.rest.now (omega arith) c.in_ok-take_bytes.ensures.some in
    no_place c.place_of.result c.args.rest.now.now c.in_ok-take_bytes.field-0.now c.take_bytes.new.rest.now (omega arith) field c.place_of.ensures.none

pub returns-clause-some : goal.returns-clause-some
returns-clause-some c =
    let field = bytes_found 4 c.args.rest.now.now c.in_ok-take_bytes.field-0.now c.take_bytes.new.rest.now (omega arith) c.in_ok-take_bytes.ensures.some in
    some_place c.place_of.result c.args.rest.now.now c.in_ok-take_bytes.field-0.now c.take_bytes.new.rest.now field c.place_of.ensures.some
