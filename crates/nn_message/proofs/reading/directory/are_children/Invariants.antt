use Rattle.std.proofs.Common.{length}
use Rattle.nn_message.specs.Reading.{is_some_byte}
use Rattle.nn_message.specs.MessageReading.{child_at}
use Rattle.nn_message.proofs.LoopLemmas.{Goes}
use Rattle.nn_message.proofs.reading.directory.are_children.Given as goal

abbrev pub invariant-children : goal.invariant-children
invariant-children l = Goes is_some_byte child_at l.bytes l.rest

abbrev pub decreases-children : goal.decreases-children
decreases-children l = length l.rest
