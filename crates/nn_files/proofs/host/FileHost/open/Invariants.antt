-- So far each directory has its place for an open segment.
use Rattle.std.proofs.Common.{◌≡◌, length}
use Rattle.nn_files.proofs.host.FileHost.open.Given as goal

abbrev pub invariant-paths : goal.invariant-paths
invariant-paths g l = length l.segments.items ≡ l.counter
