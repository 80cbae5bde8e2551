-- What was read fits the buffer.
use Rattle.std.proofs.Common.{◌≤◌, length}
use Rattle.nn_files.proofs.looks.fill.Given as goal

abbrev pub invariant-reads : goal.invariant-reads
invariant-reads g l = l.filled ≤ length l.out
