use Rattle.nn_load.specs.Queue.{NoneInProgress}
use Rattle.nn_load.proofs.queue.next_in_progress.Given as goal

abbrev pub invariant-loop-k : goal.invariant-loop-k
invariant-loop-k l = NoneInProgress l.place.names.items l.from l.k
