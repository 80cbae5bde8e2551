use Rattle.std.proofs.Common.{length}
use Rattle.nn_message.specs.Reading.{is_some_byte, inside}
use Rattle.nn_message.specs.MessageReading.{string_at}
use Rattle.nn_message.proofs.LoopLemmas.{Goes}
use Rattle.nn_message.proofs.reading.check.are_texts.Given as goal

abbrev pub invariant-texts : goal.invariant-texts
invariant-texts l = Goes is_some_byte (inside string_at) l.bytes l.rest

abbrev pub decreases-texts : goal.decreases-texts
decreases-texts l = length l.rest
