use Rattle.std.proofs.Common.{arith, refl}
use Rattle.nn_message.specs.FrameViews.{seen}
use Rattle.nn_message.proofs.PlaceLemmas.{place_taken, no_places, empty_places, place_smaller}
use Rattle.nn_message.proofs.places.are_places.Goals as goal

pub returns-in-None : goal.returns-in-None
returns-in-None c = (
  (λ told. absurd cc),
  (λ are. absurd (no_places c.places.rest.now (grind (arith, c.places-test.ensures)) c.in-None.ensures.none (c.places.invariant.1.0 are))),
)

pub places-smaller : goal.places-smaller
places-smaller c = place_smaller c.places.rest.now c.take_place.new.rest.now (seen c.in-Some.field-0) c.in-Some.ensures.some.1

pub places-preserved : goal.places-preserved
places-preserved c =
    let step = place_taken c.places.rest.now c.take_place.new.rest.now (seen c.in-Some.field-0) c.in-Some.ensures.some.0 (omega (arith, c.places.invariant.0)) c.in-Some.ensures.some.1 in
    let smaller = place_smaller c.places.rest.now c.take_place.new.rest.now (seen c.in-Some.field-0) c.in-Some.ensures.some.1 in
    (omega (arith, smaller, c.places.invariant.0), ((λ are. step.0 (c.places.invariant.1.0 are)), (λ are. c.places.invariant.1.1 (step.1 are))))

pub returns : goal.returns
returns c = ((λ told. c.places.invariant.1.1 (empty_places c.places.rest.now (grind (arith, c.places-test.ensures)))), (λ are. refl))
