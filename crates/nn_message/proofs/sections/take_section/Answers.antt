use Rattle.std.proofs.Common.{length, arith, ap, length-append}
use Rattle.nn_message.specs.Frame.{Section}
use Rattle.nn_message.specs.FrameViews.{seen}
use Rattle.nn_message.proofs.SectionLemmas.{names_apart, claimed_place}
use Rattle.nn_message.proofs.sections.take_section.Goals as goal

pub returns-then-ne-clause-none : goal.returns-then-ne-clause-none
returns-then-ne-clause-none c = λ part left after text places.
    let same = claimed_place c.args.text.now.now c.args.places.now.now c.args.name.now part left after c.take_place.new.rest.now c.args.offset (seen c.in_ok-place.place) (omega arith) (omega arith) c.ranges.offset.fits c.in_ok-place.ensures.some.0
    c.in_ok-place.ensures.some.1 text places in
    names_apart c.in_ok-place.place.name.now c.args.name.now c.if-ne.ensures (ap (λ (s : Section). s.name) same)

pub returns-then-place-offset-clause-none : goal.returns-then-place-offset-clause-none
returns-then-place-offset-clause-none c = λ part left after text places.
    let same = claimed_place c.args.text.now.now c.args.places.now.now c.args.name.now part left after c.take_place.new.rest.now c.args.offset (seen c.in_ok-place.place) (omega arith) (omega arith) c.ranges.offset.fits c.in_ok-place.ensures.some.0
    c.in_ok-place.ensures.some.1 text places in
    omega (arith, c.if-place-offset.true, ap (λ (s : Section). s.offset) same)

pub returns-then-place-text-clause-none : goal.returns-then-place-text-clause-none
returns-then-place-text-clause-none c = λ part left after text places.
    let same = claimed_place c.args.text.now.now c.args.places.now.now c.args.name.now part left after c.take_place.new.rest.now c.args.offset (seen c.in_ok-place.place) (omega arith) (omega arith) c.ranges.offset.fits c.in_ok-place.ensures.some.0
    c.in_ok-place.ensures.some.1 text places in
    omega (arith, c.if-place-text.true, ap (λ (s : Section). s.length) same, ap length text, length-append part left)
