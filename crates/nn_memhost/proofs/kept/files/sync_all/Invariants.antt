use Rattle.std.proofs.Common.{◌≡◌, map}
use Rattle.nn_memhost.specs.Kept.{placed_of}
use Rattle.nn_memhost.proofs.FilesLemmas.{mapped, synced_placed}
use Rattle.nn_memhost.proofs.kept.files.sync_all.Given as goal

abbrev pub invariant-files : goal.invariant-files
invariant-files l = map placed_of l.files.items ≡ mapped synced_placed l.k (map placed_of l.initial.files.items)
