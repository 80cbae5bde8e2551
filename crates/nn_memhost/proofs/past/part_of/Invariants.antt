use Rattle.std.proofs.Common.{◌≡◌, drop}
use Rattle.nn_memhost.specs.Part.{part_at}
use Rattle.nn_memhost.proofs.past.part_of.Given as goal

abbrev pub invariant-loop-number : goal.invariant-loop-number
invariant-loop-number l = part_at l.call l.fails ≡ part_at l.call (drop l.number-index l.fails)
