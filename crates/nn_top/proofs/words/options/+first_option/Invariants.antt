-- Each call has a name less.
use Rattle.std.proofs.Common.{length}
use Rattle.nn_top.proofs.words.options.+first_option.Given as goal

abbrev pub decreases-first_option : goal.decreases-first_option
decreases-first_option l = length l.names.now
