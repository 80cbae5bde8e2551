use Rattle.nn_load.specs.Queue.{EndBy}
use Rattle.nn_load.proofs.queue.next_finalized.Given as goal

abbrev pub invariant-loop-k : goal.invariant-loop-k
invariant-loop-k l = EndBy l.place.names.items l.from l.k l.fn.last
