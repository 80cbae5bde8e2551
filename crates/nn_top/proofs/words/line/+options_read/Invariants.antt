-- Each call has fewer words left.
use Rattle.std.proofs.Common.{length}
use Rattle.nn_top.proofs.words.line.+options_read.Given as goal

abbrev pub decreases-options_read : goal.decreases-options_read
decreases-options_read l = length l.line.rest.now
