use Rattle.std.proofs.Common.{◌≡◌, suc, ◌-◌, ◌<◌, ◌≤◌, ◌++◌, take, length}
use Rattle.nn_wire.specs.Varint.{spelled_within, varint}
use Rattle.nn_wire.proofs.SpellingLemmas.{room}
use Rattle.nn_wire.proofs.varint.spelled.Given as goal

abbrev pub invariant-loop-rest : goal.invariant-loop-rest
invariant-loop-rest l = record {
  len : length l.text ≡ 10;
  last : l.last ≤ 9;
  fits : l.rest < room (suc (9 - l.last));
  text : take l.last l.text ++ spelled_within (suc (9 - l.last)) l.rest ≡ varint l.value;
}

abbrev pub decreases-loop-rest : goal.decreases-loop-rest
decreases-loop-rest l = l.rest
