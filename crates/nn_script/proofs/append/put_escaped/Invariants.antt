use Rattle.std.proofs.Common.{◌≡◌, ◌+◌, ◌*◌, ◌≤◌, ◌++◌, take, vec_len, vec_capacity}
use Rattle.nn_script.specs.Spelling.{escaped}
use Rattle.nn_script.proofs.append.put_escaped.Given as goal

abbrev pub invariant-loop-byte : goal.invariant-loop-byte
invariant-loop-byte l = record {
  text : l.out.items ≡ l.initial.out.items ++ escaped (take l.byte-index l.text);
  size : vec_len l.out ≤ vec_len l.initial.out + 3 * l.byte-index;
  room : vec_capacity l.initial.out ≤ vec_capacity l.out;
}
