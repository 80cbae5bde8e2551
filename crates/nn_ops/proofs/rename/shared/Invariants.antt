use Rattle.std.proofs.Common.{◌≡◌, ◌+◌, drop}
use Rattle.nn_ops.specs.Above.{shared}
use Rattle.nn_ops.proofs.rename.shared.Given as goal

abbrev pub invariant-loop-k : goal.invariant-loop-k
invariant-loop-k l = record {
  common : shared l.a l.b ≡ l.k + shared (drop l.k l.a) (drop l.k l.b);
  ours : l.ours ≡ drop l.k l.a;
  theirs : l.theirs ≡ drop l.k l.b;
}
