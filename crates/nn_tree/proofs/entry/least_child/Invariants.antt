use Rattle.std.proofs.Common.{◌<◌, length, IfSome}
use Rattle.nn_tree.specs.Plain.{IsLeast, links_of}
use Rattle.nn_tree.proofs.entry.least_child.Given as goal

abbrev pub invariant-loop-i : goal.invariant-loop-i
invariant-loop-i l = record {
  least : IsLeast (links_of l.entries) l.parent l.bound l.i l.best;
  within : IfSome l.best (λ b. b < length l.entries);
}
