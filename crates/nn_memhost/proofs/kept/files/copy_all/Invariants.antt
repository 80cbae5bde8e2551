use Rattle.std.proofs.Common.{◌≡◌, map, take}
use Rattle.nn_memhost.specs.Kept.{placed_of}
use Rattle.nn_memhost.proofs.kept.files.copy_all.Given as goal

abbrev pub invariant-files : goal.invariant-files
invariant-files l = map placed_of l.copies.items ≡ take l.file-index (map placed_of l.files)
