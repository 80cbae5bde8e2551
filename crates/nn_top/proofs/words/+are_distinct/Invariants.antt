-- Each call has one directory less.
use Rattle.std.proofs.Common.{length}
use Rattle.nn_top.proofs.words.+are_distinct.Given as goal

abbrev pub decreases-are_distinct : goal.decreases-are_distinct
decreases-are_distinct l = length l.dirs.now
