use Rattle.std.proofs.Common.{◌≡◌, map, take}
use Rattle.nn_memhost.specs.Held.{held_of, map_held}
use Rattle.nn_memhost.specs.Stop.{stopped_content}
use Rattle.nn_memhost.proofs.dirs.stopped.Given as goal

abbrev pub invariant-dirs : goal.invariant-dirs
invariant-dirs l = map held_of l.left.items ≡ take l.dir-index (map (map_held (stopped_content l.keep)) (map held_of l.dirs))
