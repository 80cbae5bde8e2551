use Rattle.std.proofs.Common.{◌≡◌, drop}
use Rattle.nn_memhost.specs.Kept.{content_at}
use Rattle.nn_memhost.proofs.kept.files.size.Given as goal

abbrev pub invariant-loop-file : goal.invariant-loop-file
invariant-loop-file l = content_at l.files l.sub l.name ≡ content_at (drop l.file-index l.files) l.sub l.name
