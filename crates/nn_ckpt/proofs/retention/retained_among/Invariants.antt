use Rattle.std.proofs.Common.{take}
use Rattle.nn_ckpt.specs.Retention.{AreImagesOf}
use Rattle.nn_ckpt.proofs.retention.retained_among.Given as goal

-- they are those of the files so far
abbrev pub invariant-names : goal.invariant-names
invariant-names l = AreImagesOf (take l.name-index l.names) l.retained
