-- Each turn writes the last digit of the rest.
use Rattle.std.proofs.Common.{◌-◌, ◌∙◌, arith}
use Rattle.std.proofs.lemmas.List.{length-set}
use Rattle.nn_base.proofs.DecimalLemmas.{written_more, written_all}
use Rattle.nn_base.proofs.decimal.id_digits.Goals as goal

pub loop-place-preserved : goal.loop-place-preserved
loop-place-preserved c = record {
  within = omega arith;
  room = length-set c.loop-place.digits (c.loop-place.place - 1) _ ∙ c.loop-place.invariant.room;
  written = written_more c.loop-place.place c.loop-place.rest c.loop-place.digits _ c.loop-place-test.true (omega arith) c.loop-place.invariant.written;
}

pub returns : goal.returns
returns c = written_all c.loop-place.place c.loop-place.rest c.loop-place.digits _ c.loop-place-test.false c.loop-place.invariant.written
