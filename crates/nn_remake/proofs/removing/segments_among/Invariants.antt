use Rattle.std.proofs.Common.{◌≡◌, take}
use Rattle.std.specs.List.{filter}
use Rattle.nn_remake.specs.Removing.{is_segment}
use Rattle.nn_remake.proofs.removing.segments_among.Given as goal

abbrev pub invariant-names : goal.invariant-names
invariant-names l = l.found.items ≡ filter is_segment (take l.name-index l.names)
