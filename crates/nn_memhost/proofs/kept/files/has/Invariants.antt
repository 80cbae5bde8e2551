use Rattle.std.proofs.Common.{◌≡◌, is_some, drop}
use Rattle.nn_memhost.specs.Kept.{content_at}
use Rattle.nn_memhost.proofs.kept.files.has.Given as goal

abbrev pub invariant-loop-file : goal.invariant-loop-file
invariant-loop-file l = is_some (content_at l.files l.sub l.name) ≡ is_some (content_at (drop l.file-index l.files) l.sub l.name)
