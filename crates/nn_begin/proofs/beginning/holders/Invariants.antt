use Rattle.nn_begin.proofs.HoldLemmas.{Holding}
use Rattle.nn_begin.proofs.beginning.holders.Given as goal

abbrev pub invariant-loop-at : goal.invariant-loop-at
invariant-loop-at l = Holding l.bay.at.items l.at-index l.set
