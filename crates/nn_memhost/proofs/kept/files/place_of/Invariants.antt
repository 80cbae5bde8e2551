use Rattle.std.proofs.Common.{◌≡◌, ◌+◌, drop, map}
use Rattle.std.specs.List.{position_or_len}
use Rattle.nn_memhost.specs.Kept.{fits, placed_of}
use Rattle.nn_memhost.proofs.kept.files.place_of.Given as goal

abbrev pub invariant-loop-k : goal.invariant-loop-k
invariant-loop-k l = l.k + position_or_len (fits l.sub l.name) (map placed_of (drop l.k l.files)) ≡ position_or_len (fits l.sub l.name) (map placed_of l.files)
