use Rattle.std.proofs.Common.{take}
use Rattle.nn_ckpt.proofs.RetentionLemmas.{AreGoing}
use Rattle.nn_ckpt.proofs.retention.going_among.Given as goal

-- they are those of the files so far
abbrev pub invariant-names : goal.invariant-names
invariant-names l = AreGoing l.retained (take l.name-index l.names) l.found.items
