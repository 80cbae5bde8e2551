use Rattle.std.proofs.Common.{◌≡◌, ◌+◌, ◌≤◌, ◌++◌, length, drop, vec_len, vec_capacity}
use Rattle.nn_base.specs.Paths.{joined}
use Rattle.nn_base.proofs.path.append.Given as goal

abbrev pub invariant-loop-name : goal.invariant-loop-name
invariant-loop-name l = record {
  room : vec_len l.out + length (joined (drop l.name-index l.names)) ≤ vec_capacity l.out;
  text : l.out.items ++ joined (drop l.name-index l.names) ≡ l.initial.out.items ++ joined l.names;
}
