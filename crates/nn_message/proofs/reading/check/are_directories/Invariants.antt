use Rattle.std.proofs.Common.{length}
use Rattle.nn_message.specs.Reading.{is_some_byte, inside}
use Rattle.nn_message.specs.MessageReading.{dir_entry_at}
use Rattle.nn_message.proofs.LoopLemmas.{Goes}
use Rattle.nn_message.proofs.reading.check.are_directories.Given as goal

abbrev pub invariant-directories : goal.invariant-directories
invariant-directories l = Goes is_some_byte (inside dir_entry_at) l.section l.rest

abbrev pub decreases-directories : goal.decreases-directories
decreases-directories l = length l.rest
