use Rattle.std.proofs.Common.{◌≡◌, length, arith, ap, ◌∙◌}
use Rattle.nn_wire.specs.Field.{varint_field, bytes_field}
use Rattle.nn_message.proofs.FieldsTakenLemmas.{left_short, number_found, no_number, bytes_found, no_bytes}
use Rattle.nn_message.proofs.PlaceLemmas.{nothing_left, section_parted, behind_name, behind_length, behind_offset, place_found}
use Rattle.nn_message.proofs.places.place_of.Goals as goal

pub returns-in_err-name-clause-none : goal.returns-in_err-name-clause-none
returns-in_err-name-clause-none c = rw c.from_residual.ensures (λ section ok is.
    no_bytes 1 c.args.message.now section.name _ (omega arith) (omega arith) c.in_err-name.ensures.none (is ∙ section_parted section))

pub returns-in_err-len-clause-none : goal.returns-in_err-len-clause-none
returns-in_err-len-clause-none c = rw c.from_residual-in_err-len.ensures (λ section ok is.
    let name = bytes_found 1 c.args.message.now c.in_ok-name.name.now c.take_bytes.new.rest.now (omega arith) c.in_ok-name.ensures.some in
    let behind = behind_name c.args.message.now c.in_ok-name.name.now c.take_bytes.new.rest.now section (omega arith) name is in
    no_number 2 section.length c.take_bytes.new.rest.now _ (omega arith) (left_short _ (bytes_field 1 c.in_ok-name.name.now) _ (omega arith) name) c.in_err-len.ensures ok.length behind.1)

pub returns-in_err-offset-clause-none : goal.returns-in_err-offset-clause-none
returns-in_err-offset-clause-none c = rw c.from_residual-in_err-offset.ensures (λ section ok is.
    let name = bytes_found 1 c.args.message.now c.in_ok-name.name.now c.take_bytes.new.rest.now (omega arith) c.in_ok-name.ensures.some in
    let len = number_found 2 c.in_ok-len.len c.take_bytes.new.rest.now c.take_number.new.rest.now (omega arith) c.in_ok-len.ensures in
    let short = left_short _ (bytes_field 1 c.in_ok-name.name.now) _ (omega arith) name in
    let behind = behind_length c.args.message.now c.in_ok-name.name.now c.take_bytes.new.rest.now c.take_number.new.rest.now c.in_ok-len.len section ok (omega arith) name len.0 len.1 is in
    no_number 3 section.offset c.take_number.new.rest.now _ (omega arith) (left_short _ (varint_field 2 c.in_ok-len.len) _ short len.1) c.in_err-offset.ensures ok.offset behind.1)

pub returns-then-is_empty-clause-some : goal.returns-then-is_empty-clause-some
returns-then-is_empty-clause-some c =
    let name = bytes_found 1 c.args.message.now c.in_ok-name.name.now c.take_bytes.new.rest.now (omega arith) c.in_ok-name.ensures.some in
    let len = number_found 2 c.in_ok-len.len c.take_bytes.new.rest.now c.take_number.new.rest.now (omega arith) c.in_ok-len.ensures in
    let offset = number_found 3 c.in_ok-offset.offset c.take_number.new.rest.now c.take_number-2.new.rest.now (omega arith) c.in_ok-offset.ensures in
    let told = c.if-is_empty.ensures in
    let empty : length c.take_number-2.new.rest.now ≡ 0 = grind (arith, told) in (
      record { length = len.0; offset = offset.0 },
      place_found c.args.message.now c.in_ok-name.name.now c.take_bytes.new.rest.now c.take_number.new.rest.now c.take_number-2.new.rest.now c.in_ok-len.len c.in_ok-offset.offset name len.1 offset.1 (nothing_left c.take_number-2.new.rest.now empty),
    )

pub returns-else-is_empty-clause-none : goal.returns-else-is_empty-clause-none
returns-else-is_empty-clause-none c = λ section ok is.
    let name = bytes_found 1 c.args.message.now c.in_ok-name.name.now c.take_bytes.new.rest.now (omega arith) c.in_ok-name.ensures.some in
    let len = number_found 2 c.in_ok-len.len c.take_bytes.new.rest.now c.take_number.new.rest.now (omega arith) c.in_ok-len.ensures in
    let offset = number_found 3 c.in_ok-offset.offset c.take_number.new.rest.now c.take_number-2.new.rest.now (omega arith) c.in_ok-offset.ensures in
    let last = behind_offset c.args.message.now c.in_ok-name.name.now c.take_bytes.new.rest.now c.take_number.new.rest.now c.take_number-2.new.rest.now c.in_ok-len.len c.in_ok-offset.offset section ok (omega arith) name len.0 len.1 offset.0 offset.1 is in
    let told = c.if-is_empty.false in
    absurd (grind (arith, ap length last.1))
