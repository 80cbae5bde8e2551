use Rattle.nn_choose.specs.Served.{IsLeadBelow}
use Rattle.nn_choose.proofs.leading.lead_of.Given as goal

abbrev pub invariant-loop-i : goal.invariant-loop-i
invariant-loop-i l = IsLeadBelow l.served l.i l.lead
