use Rattle.std.proofs.Common.{length}
use Rattle.nn_message.specs.Reading.{is_some_byte, inside}
use Rattle.nn_message.specs.MessageReading.{inode_at}
use Rattle.nn_message.proofs.LoopLemmas.{Goes}
use Rattle.nn_message.proofs.reading.check.are_nodes.Given as goal

abbrev pub invariant-nodes : goal.invariant-nodes
invariant-nodes l = Goes is_some_byte (inside inode_at) l.bytes l.rest

abbrev pub decreases-nodes : goal.decreases-nodes
decreases-nodes l = length l.rest
