use Rattle.std.proofs.Common.{refl, ◌∙◌, length-set, arith}
use Rattle.nn_wire.specs.Varint.{varint}
use Rattle.nn_wire.proofs.SpellingLemmas.{room, put_more, put_last}
use Rattle.nn_wire.proofs.varint.spelled.Goals as goal

pub loop-rest-init : goal.loop-rest-init
unfolding varint room
loop-rest-init c = record { len = refl; last = omega arith; fits = omega arith; text = refl }

pub loop-rest-preserved : goal.loop-rest-preserved
loop-rest-preserved c =
    let l = c.loop-rest in
    let next = put_more l.text _ l.last l.rest (omega (arith, l.invariant.len)) l.invariant.last c.loop-rest-test.true l.invariant.fits l.invariant.text in
    record { len = length-set _ _ _ ∙ l.invariant.len; last = next.0; fits = next.1; text = next.2 }

pub returns-clause-text : goal.returns-clause-text
returns-clause-text c = put_last c.loop-rest.text _ c.loop-rest.last c.loop-rest.rest (omega (arith, c.loop-rest.invariant.len)) (omega arith) c.loop-rest.invariant.text
