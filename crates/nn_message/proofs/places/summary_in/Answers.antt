use Rattle.std.proofs.Common.{◌≡◌, ℕ, ◌++◌, ◌∙◌, refl, subst, arith}
use Rattle.nn_wire.specs.Field.{varint_field}
use Rattle.nn_message.proofs.FieldsTakenLemmas.{left_short, number_found, no_number}
use Rattle.nn_message.proofs.PlaceLemmas.{summary_parted, behind_version, behind_layout, summary_found}
use Rattle.nn_message.proofs.places.summary_in.Goals as goal

pub returns-in_err-take_number-clause-none : goal.returns-in_err-take_number-clause-none
returns-in_err-take_number-clause-none c = rw c.from_residual.ensures (λ summary ok is.
    no_number 1 summary.version c.args.message.now _ (omega arith) (omega arith) c.in_err-take_number.ensures (omega (arith, ok.version)) (is ∙ summary_parted summary))

pub returns-then-branch-ne-VERSION-clause-none : goal.returns-then-branch-ne-VERSION-clause-none
returns-then-branch-ne-VERSION-clause-none c = λ summary ok is.
    let version = number_found 1 c.in_ok-take_number.field-0 c.args.message.now c.take_number.new.rest.now (omega arith) c.in_ok-take_number.ensures in
    c.if-branch-ne-VERSION.true (behind_version c.args.message.now c.take_number.new.rest.now c.in_ok-take_number.field-0 summary ok version.0 version.1 is).0

pub returns-in_err-layout-clause-none : goal.returns-in_err-layout-clause-none
returns-in_err-layout-clause-none c = rw c.from_residual-in_err-layout.ensures (λ summary ok is.
    let version = number_found 1 c.in_ok-take_number.field-0 c.args.message.now c.take_number.new.rest.now (omega arith) c.in_ok-take_number.ensures in
    let behind = behind_version c.args.message.now c.take_number.new.rest.now c.in_ok-take_number.field-0 summary ok version.0 version.1 is in
    no_number 2 summary.layout c.take_number.new.rest.now _ (omega arith) (left_short _ (varint_field 1 c.in_ok-take_number.field-0) _ (omega arith) version.1) c.in_err-layout.ensures ok.layout behind.1)

pub returns-then-are_places-clause-some : goal.returns-then-are_places-clause-some
returns-then-are_places-clause-some c =
    let version = number_found 1 c.in_ok-take_number.field-0 c.args.message.now c.take_number.new.rest.now (omega arith) c.in_ok-take_number.ensures in
    let layout = number_found 2 c.in_ok-layout.layout c.take_number.new.rest.now c.take_number-2.new.rest.now (omega arith) c.in_ok-layout.ensures in
    let codec = c.take_codec-has_codec.ensures.taken in
    let places = c.if-are_places.ensures.0 refl in
    let first = subst (λ (n : ℕ). c.args.message.now ≡ varint_field 1 n ++ c.take_number.new.rest.now) c.if-branch-ne-VERSION.false version.1 in (
      record { version = 1; layout = c.in_ok-layout.layout; codec = codec.0; sections = places.0 },
      record { version = refl; layout = layout.0; sections = places.1 },
      summary_found c.args.message.now c.take_number.new.rest.now c.take_number-2.new.rest.now c.take_codec-has_codec.new.rest.now c.in_ok-layout.layout codec.0 places.0 first layout.1 codec.2 places.2,
      record { layout = refl; codec = codec.1; places = places.2 },
    )

pub returns-else-are_places-clause-none : goal.returns-else-are_places-clause-none
returns-else-are_places-clause-none c = λ summary ok is.
    let version = number_found 1 c.in_ok-take_number.field-0 c.args.message.now c.take_number.new.rest.now (omega arith) c.in_ok-take_number.ensures in
    let layout = number_found 2 c.in_ok-layout.layout c.take_number.new.rest.now c.take_number-2.new.rest.now (omega arith) c.in_ok-layout.ensures in
    let left = behind_layout c.args.message.now c.take_number.new.rest.now c.take_number-2.new.rest.now c.in_ok-take_number.field-0 c.in_ok-layout.layout summary ok
    version.0 version.1 layout.0 layout.1 is in
    let places = (c.take_codec-has_codec.ensures.exact summary.codec summary.sections left.1).1 in
    let told = c.if-are_places.ensures.1 (summary.sections, ok.sections, places) in
    absurd cc
