use Rattle.std.proofs.Common.{◌≡◌, map, take}
use Rattle.nn_memhost.specs.Held.{held_of}
use Rattle.nn_memhost.proofs.dirs.copy.Given as goal

abbrev pub invariant-dirs : goal.invariant-dirs
invariant-dirs l = map held_of l.copies.items ≡ take l.dir-index (map held_of l.dirs)
