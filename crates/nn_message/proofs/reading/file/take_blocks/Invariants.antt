use Rattle.std.proofs.Common.{◌+◌, ◌≤◌, length}
use Rattle.nn_message.specs.Reading.{has_key}
use Rattle.nn_message.specs.MessageReading.{block_field_at}
use Rattle.nn_message.proofs.LoopLemmas.{Along}
use Rattle.nn_message.proofs.reading.file.take_blocks.Given as goal

abbrev pub invariant-fields : goal.invariant-fields
invariant-fields l = record {
  along : Along (has_key 50) block_field_at l.bytes l.left l.count;
  few : l.count + length l.left ≤ length l.bytes;
}

abbrev pub decreases-fields : goal.decreases-fields
decreases-fields l = length l.left
