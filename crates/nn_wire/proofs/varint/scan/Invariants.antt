use Rattle.nn_wire.proofs.ReadingLemmas.{Along}
use Rattle.nn_wire.proofs.varint.scan.Given as goal

abbrev pub invariant-loop-place : goal.invariant-loop-place
invariant-loop-place l = Along l.bytes l.place l.value
