use Rattle.std.proofs.Common.{◌≡◌, map, take}
use Rattle.nn_memhost.specs.Kept.{placed_of}
use Rattle.nn_memhost.specs.Stop.{stopped_content}
use Rattle.nn_memhost.proofs.FilesLemmas.{placed_by}
use Rattle.nn_memhost.proofs.kept.files.stopped.Given as goal

abbrev pub invariant-files : goal.invariant-files
invariant-files l = map placed_of l.left.items ≡ take l.file-index (map (placed_by (stopped_content l.keep)) (map placed_of l.files))
